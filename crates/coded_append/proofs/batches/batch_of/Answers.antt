use Rattle.std.proofs.Common.{◌≡◌, ℕ, ◌+◌, ◌-◌, List, [], ◌∷◌, ◌++◌, length, drop, refl, ap, ◌∙◌, length-append, arith}
use Rattle.craft_base.specs.declared.command.Entry.{Entry}
use Rattle.coded_append.specs.Batches.{batch_of, fitting}
use Rattle.coded_append.specs.Ways.{going, sent_by}
use Rattle.coded_append.proofs.Sending.{no_places, sent_all, sent_more}
use Rattle.coded_append.proofs.batches.batch_of.Goals as goal

pub returns-in-None : goal.returns-in-None
returns-in-None g c = λ k.
    let view = g.L.LogView.log c.args.log.now in
    let way = c.args.way.now in
    sent_all k view.k c.loop-place.room c.args.start c.loop-place.place (c.args.start + c.loop-place.place) way view.entries c.loop-place.batch
    (batch_of k (going way (drop (c.args.start - 1) view.entries))) c.requires.least refl c.in-None.ensures (c.loop-place.invariant.taken k)

pub loop-place-preserved : goal.loop-place-preserved
loop-place-preserved g c =
    let view = g.L.LogView.log c.args.log.now in
    let way = c.args.way.now in
    let place = c.loop-place.place in
    let index = c.args.start + place in
    let e : Entry = sent_by way c.in-Some.view.entry in
    let es = drop (c.args.start - 1) view.entries in
    let left = going way (drop (place + 1) es) in
    let entry : c.in_ok-sent_entry-in-Some.field-0 ≡ e = c.in_ok-sent_entry-in-Some.ensures in
    let pushed : c.push.new.self ≡ c.loop-place.batch ++ e ∷ [] = c.push.ensures ∙ ap (λ (x : Entry). c.loop-place.batch ++ x ∷ []) entry in
    record {
      taken = λ k.
          ap (λ (xs : List Entry). xs ++ fitting k (8 - (place + 1)) (c.loop-place.room - c.sent_size.result) left) pushed
          ∙ ap (λ (n : ℕ). (c.loop-place.batch ++ e ∷ []) ++ fitting k (8 - (place + 1)) (c.loop-place.room - n) left) c.sent_size.ensures
          ∙ sent_more k view.k c.loop-place.room c.args.start place index way view.entries c.loop-place.batch (batch_of k (going way es)) c.in-Some.view
          c.requires.least c.loop-place-test.true refl c.in-Some.ensures (c.loop-place.invariant.taken k);
      as_many = omega (arith, ap length pushed, length-append c.loop-place.batch (e ∷ []), c.loop-place.invariant.as_many);
    }

pub returns : goal.returns
returns g c = λ k.
    let view = g.L.LogView.log c.args.log.now in
    let way = c.args.way.now in
    let es = drop (c.args.start - 1) view.entries in
    no_places k c.loop-place.room c.loop-place.place (going way (drop c.loop-place.place es)) c.loop-place.batch
    (batch_of k (going way es)) c.loop-place-test.false (c.loop-place.invariant.taken k)
