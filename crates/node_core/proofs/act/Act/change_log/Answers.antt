use Rattle.std.proofs.Common.{◌++◌, ◌∙◌, ap, map, drop}
use Rattle.std.specs.Option.{option_to_list}
use Rattle.entry_frames.specs.MessageParts.{body_of, entries_of}
use Rattle.entry_frames.specs.Records.{Add, Cut}
use Rattle.node_core.specs.Acting.{is_preparing}
use Rattle.node_core.specs.Appending.{value_record}
use Rattle.node_core.proofs.Gathering.{still_idle}
use Rattle.node_core.proofs.Recorded.{both_recorded, may_front, may_rest}
use Rattle.node_core.proofs.act.Act.change_log.Goals as goal

pub complete-requires-clause-may : goal.complete-requires-clause-may
complete-requires-clause-may c =
    let frame = c.args.append.now.frame in
    may_front c.args.self.member (map (value_record frame) c.args.wholes.now)
    (map Cut (option_to_list c.args.cut) ++ map Add (drop c.args.first_new (entries_of (body_of frame)))) c.requires.may

pub cut-requires-clause-idle : goal.cut-requires-clause-idle
cut-requires-clause-idle c =
    still_idle (map (value_record c.args.append.now.frame) c.args.wholes.now) c.args.self c.in_ok-act.act c.in_ok-act.ensures c.requires.idle

pub add-requires-clause-idle : goal.add-requires-clause-idle
add-requires-clause-idle c =
    still_idle (map Cut (option_to_list c.args.cut)) c.in_ok-act.act c.in_ok-act-2.act c.in_ok-act-2.ensures
    (still_idle (map (value_record c.args.append.now.frame) c.args.wholes.now) c.args.self c.in_ok-act.act c.in_ok-act.ensures c.requires.idle)

pub cut-requires-clause-free : goal.cut-requires-clause-free
cut-requires-clause-free c = ap is_preparing c.in_ok-act.ensures.role ∙ c.requires.free

pub add-requires-clause-free : goal.add-requires-clause-free
add-requires-clause-free c = ap is_preparing (c.in_ok-act-2.ensures.role ∙ c.in_ok-act.ensures.role) ∙ c.requires.free

pub cut-requires-clause-may : goal.cut-requires-clause-may
cut-requires-clause-may c =
    let frame = c.args.append.now.frame in
    let cuts = map Cut (option_to_list c.args.cut) in
    let adds = map Add (drop c.args.first_new (entries_of (body_of frame))) in
    may_front c.in_ok-act.act.member cuts adds
    (may_rest (map (value_record frame) c.args.wholes.now) (cuts ++ adds) c.args.self c.in_ok-act.act c.requires.may c.in_ok-act.ensures)

pub add-requires-clause-may : goal.add-requires-clause-may
add-requires-clause-may c =
    let frame = c.args.append.now.frame in
    let cuts = map Cut (option_to_list c.args.cut) in
    let adds = map Add (drop c.args.first_new (entries_of (body_of frame))) in
    may_rest cuts adds c.in_ok-act.act c.in_ok-act-2.act
    (may_rest (map (value_record frame) c.args.wholes.now) (cuts ++ adds) c.args.self c.in_ok-act.act c.requires.may c.in_ok-act.ensures) c.in_ok-act-2.ensures

pub returns : goal.returns
returns c =
    let frame = c.args.append.now.frame in
    let cuts = map Cut (option_to_list c.args.cut) in
    let adds = map Add (drop c.args.first_new (entries_of (body_of frame))) in
    both_recorded (map (value_record frame) c.args.wholes.now) (cuts ++ adds) c.args.self c.in_ok-act.act c.in_ok-act-3.act c.in_ok-act.ensures
    (both_recorded cuts adds c.in_ok-act.act c.in_ok-act-2.act c.in_ok-act-3.act c.in_ok-act-2.ensures c.in_ok-act-3.ensures)
