use Rattle.std.proofs.Common.{◌≡◌, ◌+◌, ◌<◌, take, drop, length, None, Some, sym, subst, arith}
use Rattle.std.specs.Prelude.{slice_get}
use Rattle.std.proofs.lemmas.List.{length-take-le}
use Rattle.std.proofs.lemmas.Option.{slice_get_within}
use Rattle.entry_frames.specs.MessageParts.{body_of, entries_of, prev_of}
use Rattle.full_append.specs.Comparisons.{Compares}
use Rattle.full_append.proofs.Appends.{told}
use Rattle.full_append.proofs.Comparing.{started}
use Rattle.full_append.proofs.Lists.{viewed_some, viewed_none}
use Rattle.full_append.proofs.Noting.{bounds, one_more}
use Rattle.peer_frames.proofs.Spelled.{there_is}
use Rattle.full_append.proofs.compared.compared.Goals.{in-Some+in_ok-note, in_default}
use Rattle.full_append.proofs.compared.compared.Goals as goal

pub loop-n-init : goal.loop-n-init
loop-n-init g c =
    started (drop (prev_of (body_of c.args.append.now.frame)) (g.L.LogView.log c.args.log.now).entries) (prev_of (body_of c.args.append.now.frame) + 1)
    c.new-found.result c.new-found.ensures.same c.new-found.ensures.wholes c.new-found.ensures.mask

pub note-requires-clause-same : goal.note-requires-clause-same
note-requires-clause-same g c =
    let body = body_of c.args.append.now.frame in
    let there : slice_get (entries_of body) c.loop-n.n ≡ Some c.in-Some.entry.entry = viewed_some c.args.append.now.shape.need (slice_get (entries_of body) c.loop-n.n) c.in-Some.entry c.in-Some.ensures in
    let within : c.loop-n.n < length (entries_of body) = slice_get_within (entries_of body) c.loop-n.n c.in-Some.entry.entry there in
    (bounds (drop (prev_of body) (g.L.LogView.log c.args.log.now).entries) (take c.loop-n.n (entries_of body)) (prev_of body + 1) c.loop-n.n c.loop-n.found
    (length-take-le c.loop-n.n (entries_of body) (omega (arith, within))) c.loop-n.invariant).0

pub note-requires-clause-mask : goal.note-requires-clause-mask
note-requires-clause-mask g c =
    let body = body_of c.args.append.now.frame in
    let there : slice_get (entries_of body) c.loop-n.n ≡ Some c.in-Some.entry.entry = viewed_some c.args.append.now.shape.need (slice_get (entries_of body) c.loop-n.n) c.in-Some.entry c.in-Some.ensures in
    let within : c.loop-n.n < length (entries_of body) = slice_get_within (entries_of body) c.loop-n.n c.in-Some.entry.entry there in
    (bounds (drop (prev_of body) (g.L.LogView.log c.args.log.now).entries) (take c.loop-n.n (entries_of body)) (prev_of body + 1) c.loop-n.n c.loop-n.found
    (length-take-le c.loop-n.n (entries_of body) (omega (arith, within))) c.loop-n.invariant).1

pub loop-n-preserved : goal.loop-n-preserved
loop-n-preserved g c =
    let body = body_of c.args.append.now.frame in
    let log = (g.L.LogView.log c.args.log.now).entries in
    let k = (g.L.LogView.log c.args.log.now).k in
    let place = slice_get (entries_of body) c.loop-n.n in
    elim c.match-entry.branch [
      | in-Some+in_ok-note w ↦ (
          let at : c.prev-first.result + 1 + w.from.result ≡ prev_of body + 1 + c.loop-n.n = omega (arith, w.from.ensures, c.prev-first.ensures) in
          let there : place ≡ Some w.in-Some.entry.entry = viewed_some c.args.append.now.shape.need place w.in-Some.entry w.in-Some.ensures in
          subst (Compares (drop (prev_of body) log) (take (c.loop-n.n + 1) (entries_of body)) (prev_of body + 1)) (sym w.found-is)
          (one_more log (entries_of body) k (prev_of body) c.loop-n.n (c.prev-first.result + 1 + w.from.result) w.in-Some.entry.entry w.at.result
          c.loop-n.found w.note.new.self at there w.at.ensures c.loop-n.invariant w.in_ok-note.ensures))
      | in_default w ↦ (
          let none : place ≡ None = viewed_none c.args.append.now.shape.need place w.in_default.ensures in
          let within : c.loop-n.n < length (entries_of body) =
          omega (arith, c.loop-n-test.true, c.count-n-end.ensures, told c.args.append.now.frame c.requires.kind) in
          absurd (there_is (entries_of body) c.loop-n.n within none))
    ]
