use Rattle.std.proofs.Common.{◌≡◌, ◌-◌, ◌∙◌, ap, subst, sym, drop, length, ◌++◌}
use Rattle.std.specs.Int.{w64, to_be_bytes}
use Rattle.entry_frames.specs.Records.{body_within, IsGroup}
use Rattle.entry_frames.proofs.Groups.{closed, is_group, within_group}
use Rattle.entry_frames.proofs.group.GroupBuilder.close.Goals as goal

pub invariant_of-result : goal.invariant_of-result
invariant_of-result c =
    let written : c.write_length.new.bytes ≡ to_be_bytes w64 (length c.self.inside.bytes.items - 8) ++ drop 8 c.push.new.self.items
    = rw (← c.self.inside.bytes.ok.0, ← c.len-len.ensures, ← c.deref_mut.ensures.value) c.write_length.ensures in
    let e = closed c.self.inside.bytes.items c.push.new.self.items c.write_length.new.bytes c.push.new.self.len c.self.invariant c.in_ok-push.ensures.items written c.push.new.self.ok.0 in
    subst IsGroup (sym e) (is_group _)

pub returns : goal.returns
returns c =
    let written : c.write_length.new.bytes ≡ to_be_bytes w64 (length c.self.inside.bytes.items - 8) ++ drop 8 c.push.new.self.items
    = rw (← c.self.inside.bytes.ok.0, ← c.len-len.ensures, ← c.deref_mut.ensures.value) c.write_length.ensures in
    let e = closed c.self.inside.bytes.items c.push.new.self.items c.write_length.new.bytes c.push.new.self.len c.self.invariant c.in_ok-push.ensures.items written c.push.new.self.ok.0 in
    ap body_within e ∙ within_group _ ∙ c.self.view_is
