use Rattle.std.proofs.Common.{◌∙◌, ap, length}
use Rattle.entry_frames.specs.Operations.{row}
use Rattle.peer_frames.proofs.Spelled.{request_written}
use Rattle.peer_frames.proofs.writing.push_request.Goals as goal

pub returns : goal.returns
returns c =
    request_written c.args.request.now _ _ _ _ _ _ _ _ _ _ _ _ _ _ _ _ _
    (c.byte.ensures ∙ ap (λ k. (row k).byte) c.of-kind.ensures) (c.expects.ensures ∙ ap (λ k. (row k).expects) c.of-kind.ensures) c.expected_version.ensures
    c.as_bytes-key.ensures (ap length c.as_bytes-key.ensures) (c.sets.ensures ∙ ap (λ k. (row k).sets) c.of-kind.ensures) c.as_bytes-value.ensures (ap length c.as_bytes-value.ensures)
    c.in_ok-push_u64.ensures c.in_ok-push_u64-2.ensures c.in_ok-push_byte.ensures c.in_ok-push_u64_if.ensures c.in_ok-push_byte-2.ensures c.in_ok-push_bytes.ensures
    c.in_ok-push_u32_if.ensures c.in_ok-push_bytes-2.ensures
