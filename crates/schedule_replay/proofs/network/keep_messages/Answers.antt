use Rattle.std.proofs.Common.{◌++◌, ◌∷◌, [], ◌∙◌, ap, map, sym, take, append_assoc}
use Rattle.std.proofs.lemmas.List.{map-append}
use Rattle.schedule_replay.specs.Network.{frame_bytes}
use Rattle.world_model.specs.World.{sent_among}
use Rattle.schedule_replay.proofs.Sent.{sent_among_more}
use Rattle.schedule_replay.proofs.network.keep_messages.Goals as goal

pub loop-output-preserved : goal.loop-output-preserved
loop-output-preserved c =
    let bytes = map (frame_bytes c.args.shape.now) in
    let before = sent_among (take c.loop-output.output-index c.args.outputs.now) in
    let one = sent_among (c.output-item.result ∷ []) in
    c.in_ok-keep_message.ensures ∙ ap (λ frames. frames ++ bytes one) c.loop-output.invariant
    ∙ append_assoc c.args.sent.now.items (bytes before) (bytes one)
    ∙ ap (λ frames. c.args.sent.now.items ++ frames)
    (sym (map-append (frame_bytes c.args.shape.now) before one)
    ∙ ap bytes
    (ap (λ output. before ++ sent_among (output ∷ [])) c.output-item.is
    ∙ sym (sent_among_more c.args.outputs.now c.loop-output.output-index c.output-item.result c.loop-output-test.true)))
