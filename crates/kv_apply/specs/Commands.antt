-- One map: what the commands of a log make of it, and what each of them comes to.
--
-- A command stands here as its head: the value that it sets is the one at its index. The commands of a log stand in a list, the latest
-- first; so the index of the latest is the length of the list, and what stands behind a command in the list is what came before it.
use Rattle.std.specs.Prelude.{ℕ, ◌+◌, max, Bool, true, false, not, ◌&&◌, List, [], ◌∷◌, length, map, reverse, ◌==◌, nat_lt, bytes_eq, if◌then◌else◌, Option, None, Some, option_map}
use Rattle.craft_base.specs.declared.command.Entry.{Entry}
use Rattle.craft_base.specs.declared.command.Head.{Head}
use Rattle.craft_base.specs.declared.command.Op.{Op}
use Rattle.craft_base.specs.declared.command.Op.TheVariants as ops
use Rattle.craft_base.specs.declared.command.Reply.{Reply}
use Rattle.craft_base.specs.declared.command.Reply.TheVariants as replies
use Rattle.entry_frames.specs.Operations.{row, op_kind}
use Rattle.kv_apply.specs.declared.outcome.Kept.{Kept}
use Rattle.kv_apply.specs.declared.outcome.Kept.TheVariants as keeps
use Rattle.kv_apply.specs.declared.outcome.Last.{Last}
use Rattle.kv_apply.specs.declared.outcome.Outcome.{Outcome}
use Rattle.kv_apply.specs.declared.outcome.Outcome.TheVariants.{Done, Differs, Gone, Found, Nothing, Old}

-- the commands of the entries of a log, the first of which has index 1
abbrev pub heads_of : List Entry → List Head
heads_of log = reverse (map (λ e. e.head) log)

-- ---- which commands take effect

-- whether a client asks for it: everything but a Noop
abbrev pub is_asked : Head → Bool
is_asked h = (row (op_kind h.op)).asked

-- whether it is a command of that client; a Noop is nobody's
abbrev pub is_of : ℕ → Head → Bool
is_of client h = is_asked h && (h.client == client)

-- the greater of a number and another, if there is another
abbrev pub greater : ℕ → Option ℕ → ℕ
greater n None = n
greater n (Some m) = max n m

-- the greatest number of that client's commands, if it has any
abbrev pub greatest_number : ℕ → List Head → Option ℕ
greatest_number client [] = None
greatest_number client (h ∷ earlier) =
    if is_of client h then Some (greater h.seq (greatest_number client earlier)) else greatest_number client earlier

-- whether a number is above another, if there is another
abbrev pub exceeds : ℕ → Option ℕ → Bool
exceeds n None = true
exceeds n (Some m) = nat_lt m n

-- Effective: a client asks for it, and its number is above that of every earlier command of its client
abbrev pub is_effective : Head → List Head → Bool
is_effective h earlier = is_asked h && exceeds h.seq (greatest_number h.client earlier)

-- ---- versions

-- whether an operation writes a key that has that version: a conditional one does where it expects this version
abbrev pub is_write : Op → ℕ → Bool
is_write ops.Noop version = false
is_write ops.Put version = true
is_write (ops.PutIf expected) version = version == expected
is_write ops.Del version = true
is_write ops.Get version = false

-- the version that a write leaves, where it is done at that index
abbrev pub version_left : Op → ℕ → ℕ
version_left ops.Del index = 0
version_left _ index = index

-- Version: the index of the last effective command that wrote the key; 0 where that removed it, or where there is none
abbrev pub version : List ℕ → List Head → ℕ
version key [] = 0
version key (h ∷ earlier) =
    if is_effective h earlier && (bytes_eq h.key key && is_write h.op (version key earlier))
    then version_left h.op (length earlier + 1)
    else version key earlier

-- ---- outcomes

-- what an operation comes to at an index, on a key of that version
abbrev pub outcome_of : Op → (index version : ℕ) → Outcome
outcome_of ops.Noop index version = Nothing
outcome_of ops.Put index version = Done index
outcome_of (ops.PutIf expected) index version = if version == expected then Done index else Differs version
outcome_of ops.Del index version = Gone (not (version == 0))
outcome_of ops.Get index version = if version == 0 then Nothing else Found version

-- Outcome: what an effective command comes to
abbrev pub outcome : Head → List Head → Outcome
outcome h earlier = outcome_of h.op (length earlier + 1) (version h.key earlier)

-- the outcome of the effective command of that client with that number, if there is one
abbrev pub map_outcome : (client seq : ℕ) → List Head → Option Outcome
map_outcome client seq [] = None
map_outcome client seq (h ∷ earlier) =
    if is_of client h && ((h.seq == seq) && is_effective h earlier) then Some (outcome h earlier) else map_outcome client seq earlier

-- an outcome as a client is told it, with the value of the version that was found
abbrev pub told : (ℕ → List ℕ) → Outcome → Reply
told value_at (Done version) = replies.Done version
told value_at (Differs version) = replies.Differs version
told value_at (Gone was_there) = replies.Gone was_there
told value_at (Found version) = replies.Value version (value_at version)
told value_at Nothing = replies.Nothing
told value_at Old = replies.Old

-- MapReply: what the client is to be told of its request with that number, if that took effect
abbrev pub map_reply : (ℕ → List ℕ) → (client seq : ℕ) → List Head → Option Reply
map_reply value_at client seq heads = option_map (told value_at) (map_outcome client seq heads)

-- ---- what is kept of clients

-- the number and the outcome of a client's last effective command, if it has one
abbrev pub last_of : ℕ → List Head → Option Last
last_of client [] = None
last_of client (h ∷ earlier) =
    if is_of client h && is_effective h earlier then Some (record { number = h.seq; outcome = outcome h earlier }) else last_of client earlier

-- what is kept for a number, by the client's last effective command
abbrev pub kept_by : ℕ → Option Last → Kept
kept_by seq None = keeps.New
kept_by seq (Some last) =
    if nat_lt last.number seq then keeps.New else (if nat_lt seq last.number then keeps.Old else keeps.Same last.outcome)

abbrev pub kept_of : (client seq : ℕ) → List Head → Kept
kept_of client seq heads = kept_by seq (last_of client heads)

-- what a command is answered, by what was kept for its number before, and what it comes to where it takes effect
abbrev pub answer_by : Kept → Outcome → Outcome
answer_by keeps.New fresh = fresh
answer_by (keeps.Same kept) fresh = kept
answer_by keeps.Old fresh = Old

-- what a command is answered behind those
abbrev pub answer : Head → List Head → Outcome
answer h earlier = if is_asked h then answer_by (kept_of h.client h.seq earlier) (outcome h earlier) else Nothing
