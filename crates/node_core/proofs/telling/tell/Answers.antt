use Rattle.std.proofs.Common.{◌∙◌, ◌++◌, map, ap}
use Rattle.std.specs.Option.{option_to_list}
use Rattle.entry_frames.specs.declared.output.Output.TheVariants as outputs
use Rattle.world_model.specs.Turn.{reply_output}
use Rattle.node_core.proofs.Told.{told_all}
use Rattle.node_core.proofs.telling.tell.Goals as goal

pub returns : goal.returns
returns c =
    told_all c.new-told.result.items (option_to_list c.args.changes.role) (map (λ index. outputs.Cut index c.args.changes.prepares) c.args.changes.cuts.items)
    (map outputs.Whole c.args.changes.wholes.items) (option_to_list c.args.changes.commit) (map reply_output c.args.replies.items) (map outputs.Send c.args.sends.items)
    c.tell_some.new.told.items c.tell_cuts.new.told.items c.tell_wholes.new.told.items c.tell_some-2.new.told.items c.tell_replies.new.told.items c.tell_sends.new.told.items
    c.new-told.ensures.items c.in_ok-tell_some.ensures
    (c.in_ok-tell_cuts.ensures ∙ ap (λ xs. c.tell_some.new.told.items ++ map (λ index. outputs.Cut index c.args.changes.prepares) xs) c.deref.ensures.value)
    (c.in_ok-tell_wholes.ensures ∙ ap (λ xs. c.tell_cuts.new.told.items ++ map outputs.Whole xs) c.deref-2.ensures.value)
    c.in_ok-tell_some-2.ensures c.in_ok-tell_replies.ensures c.in_ok-tell_sends.ensures
