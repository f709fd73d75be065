use Rattle.std.proofs.Common.{ℕ, ◌+◌, ◌-◌, length, ap, sym, ◌∙◌}
use Rattle.coded_append.proofs.Sizes.{coded_room}
use Rattle.coded_append.proofs.forms.coded_size.Goals as goal

pub returns : goal.returns
returns c =
    let e = c.args.view.now.entry in
    let value : ℕ = length c.bytes-value.result.now in
    ap (λ (n : ℕ). c.size-2.result - value + n) c.part_len.ensures.value
    ∙ coded_room c.args.need c.args.member c.size-2.result value e c.requires.whole (sym c.has_value.ensures ∙ c.if-not-has_value.false) c.size-2.ensures.room (ap length c.bytes-value.ensures)
