use Rattle.std.proofs.Common.{◌+◌, ◌<◌, ◌≤◌, ℕ, List, sym, ap, subst, ◌∙◌, length, take, drop, arith}
use Rattle.std.specs.Prelude.{Option, Some, slice_get}
use Rattle.synced_log.specs.Journal.{Kept, Placed}
use Rattle.synced_log.proofs.Spans.{length-all_placed, placed_of, inside_of}
use Rattle.synced_log.proofs.groups.Groups.at.Goals as goal

abbrev placed : ℕ → List ℕ → Option Placed
placed gate body = Some (record { gate = gate; body = body })

pub returns-then-n-len : goal.returns-then-n-len
returns-then-n-len c =
    omega (arith, c.if-n-len.true, c.len.ensures, ap (λ (k : Kept). length k.placed) c.self.view_is, length-all_placed c.self.inside.file.items c.self.inside.spans.items)

pub body_at-requires : goal.body_at-requires
body_at-requires c =
    let lt : c.args.n < length c.self.inside.spans.items = omega (arith, c.if-n-len.false, c.len.ensures) in
    let p = c.index-span.result.now in
    subst (λ (f : List ℕ). p.gate + 9 + p.len ≤ length f) (sym c.deref.ensures.value)
    (inside_of c.self.inside.file.items c.self.inside.spans.items c.args.n p c.self.invariant.1 lt c.index-span.ensures)

pub returns : goal.returns
returns c =
    let lt : c.args.n < length c.self.inside.spans.items = omega (arith, c.if-n-len.false, c.len.ensures) in
    let p = c.index-span.result.now in
    ap (λ (k : Kept). slice_get k.placed c.args.n) (sym c.self.view_is)
    ∙ placed_of c.self.inside.file.items c.self.inside.spans.items c.args.n p lt c.index-span.ensures
    ∙ ap (λ (b : List ℕ). placed p.gate b) (sym (c.body_at.ensures ∙ ap (λ (f : List ℕ). take p.len (drop (p.gate + 9) f)) c.deref.ensures.value))
