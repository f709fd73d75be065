use Rattle.std.proofs.Common.{◌≡◌, ◌∙◌, ap, length}
use Rattle.entry_frames.specs.Entries.{tag_byte}
use Rattle.entry_frames.specs.Operations.{row, op_kind, expected_version}
use Rattle.entry_frames.proofs.Entries.{entry_written}
use Rattle.entry_frames.proofs.entry_writing.put_entry.Goals as goal

pub returns : goal.returns
returns c =
    let kind : c.of-kind.result ≡ op_kind c.args.entry.now.entry.head.op = c.of-kind.ensures ∙ ap op_kind c.op.ensures in
    entry_written c.args.entry.now.k c.args.entry.now.entry _ _ _ _ _ _ _ _ _ _ _ _ _ _ _ _ _ _ _ _ _ _ _
    (c.byte.ensures ∙ ap tag_byte c.tag.ensures) (c.byte-2.ensures ∙ ap (λ k. (row k).byte) kind) c.term.ensures c.client.ensures c.seq.ensures
    (c.expects.ensures ∙ ap (λ k. (row k).expects) kind) (c.expected_version.ensures ∙ ap expected_version c.op-2.ensures) c.key-2.ensures.value (ap length c.key.ensures.value)
    (c.sets.ensures ∙ ap (λ k. (row k).sets) kind) c.vlen.ensures c.bytes.ensures
    c.put_byte.ensures.items c.put_byte-2.ensures.items c.put_u64.ensures.items c.put_u64-2.ensures.items c.put_u64-3.ensures.items c.put_u64_if.ensures.items
    c.put_byte-3.ensures.items c.put_bytes.ensures.items c.put_u32_if.ensures.items c.put_bytes-2.ensures.items
