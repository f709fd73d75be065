-- The definitions on commands worked out by hand.
use Rattle.std.proofs.Common.{◌≡◌, ℕ, List, [], ◌∷◌, true, false, Some, refl}
use Rattle.craft_base.specs.declared.command.Head.{Head}
use Rattle.craft_base.specs.declared.command.Op.{Op}
use Rattle.craft_base.specs.declared.command.Op.TheVariants.{Noop, Put, PutIf, Del, Get}
use Rattle.craft_base.specs.declared.command.Reply.TheVariants as replies
use Rattle.kv_apply.specs.Commands.{answer, kept_of, map_reply, version}
use Rattle.kv_apply.specs.declared.outcome.Kept.TheVariants as keeps
use Rattle.kv_apply.specs.declared.outcome.Outcome.TheVariants as outcomes

abbrev key : List ℕ
key = 97 ∷ []

-- a command of that client with that number, on the key
abbrev ask : (client seq : ℕ) → Op → Head
ask client seq op = record { client = client; seq = seq; op = op; key = key; vlen = 1 }

-- the first entry of a leader's term, and behind it a put of client 7
abbrev one_put : List Head
one_put = ask 7 1 Put ∷ record { client = 0; seq = 0; op = Noop; key = []; vlen = 0 } ∷ []

put_is_done : map_reply (λ index. index ∷ []) 7 1 one_put ≡ Some (replies.Done 2)
put_is_done = refl

get_finds_it : map_reply (λ index. index ∷ []) 7 2 (ask 7 2 Get ∷ one_put) ≡ Some (replies.Value 2 (2 ∷ []))
get_finds_it = refl

-- the number 1 comes again behind the number 2
put_is_old : kept_of 7 1 (ask 7 2 Get ∷ one_put) ≡ keeps.Old
put_is_old = refl

-- it comes again at once: it isn't done again, and is answered as it was
put_is_repeated : answer (ask 7 1 Put) one_put ≡ outcomes.Done 2
put_is_repeated = refl

put_is_done_once : version key (ask 7 1 Put ∷ one_put) ≡ 2
put_is_done_once = refl

-- a get comes again, behind another client's put
get_is_repeated : answer (ask 7 2 Get) (ask 8 1 Put ∷ ask 7 2 Get ∷ one_put) ≡ outcomes.Found 2
get_is_repeated = refl

get_of_another : answer (ask 9 1 Get) (ask 8 1 Put ∷ ask 7 2 Get ∷ one_put) ≡ outcomes.Found 4
get_of_another = refl

-- a number that was given to a put is given to a delete
number_is_taken : answer (ask 7 1 Del) one_put ≡ outcomes.Done 2
number_is_taken = refl

put_if_present : answer (ask 8 1 (PutIf 2)) one_put ≡ outcomes.Done 3
put_if_present = refl

put_if_absent : answer (ask 8 1 (PutIf 0)) one_put ≡ outcomes.Differs 2
put_if_absent = refl

put_if_older : answer (ask 8 2 (PutIf 2)) (ask 8 1 Put ∷ one_put) ≡ outcomes.Differs 3
put_if_older = refl

put_if_first : answer (ask 8 1 (PutIf 0)) [] ≡ outcomes.Done 1
put_if_first = refl

delete : answer (ask 7 2 Del) one_put ≡ outcomes.Gone true
delete = refl

delete_again : answer (ask 7 3 Del) (ask 7 2 Del ∷ one_put) ≡ outcomes.Gone false
delete_again = refl

get_deleted : answer (ask 7 3 Get) (ask 7 2 Del ∷ one_put) ≡ outcomes.Nothing
get_deleted = refl

put_if_deleted : answer (ask 7 3 (PutIf 2)) (ask 7 2 Del ∷ one_put) ≡ outcomes.Differs 0
put_if_deleted = refl

-- a conditional put that failed is no write
failed_put_if : version key (ask 8 1 (PutIf 1) ∷ one_put) ≡ 2
failed_put_if = refl
