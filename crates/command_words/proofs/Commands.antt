-- The words of a command: what reads them and what spells them say the same.
use Rattle.std.proofs.Common.{◌≡◌, ℕ, ◌+◌, ◌<◌, ◌≤◌, ◌^◌, List, [], ◌∷◌, Bool, true, false, ◌&&◌, refl, ap, ◌∙◌, sym, subst, arith, Option, None, Some, Ok, Err, IfSome}
use Rattle.std.specs.Prelude.{◌↔◌, nat_le, if◌then◌else◌}
use Rattle.std.specs.Fmt.{decimal}
use Rattle.std.proofs.lemmas.Bool.Decides.{nat_tests}
use Rattle.std.proofs.lemmas.List.Elements.{All-tail}
use Rattle.craft_base.specs.Shape.{Shape, IsShape, members_of}
use Rattle.craft_base.specs.declared.shape.ShapeError.TheVariants.{BadFaults, BadNeed}
use Rattle.entry_frames.specs.Formats.{AreBytes}
use Rattle.entry_frames.specs.Limits.{greatest}
use Rattle.command_words.specs.Spelling.{AreWords, IsCommand, IsPathOf, SpellsAsk, SpellsCommand, SpellsNode, SpellsRest, command_name, command_shape}
use Rattle.command_words.specs.Words.{command_of, most_turns, path_in, plan, shape_if_ok, shape_of}
use Rattle.command_words.specs.declared.command.AskCommand.{AskCommand}
use Rattle.command_words.specs.declared.command.Command.{Command}
use Rattle.command_words.specs.declared.command.Command.TheVariants.{Replay, Node, Ask, Split, Join, Storm}
use Rattle.command_words.specs.declared.command.NodeCommand.{NodeCommand}
use Rattle.world_model.specs.Lines.{bytes_word}
use Rattle.world_model.specs.Numbers.{number_of}
use Rattle.world_model.specs.Spelling.{IsNumber}
use Rattle.world_model.proofs.CallWords.{one_op, some_op}
use Rattle.world_model.proofs.Spelling.{IsNumber-read, decimal-IsNumber, read-IsNumber}
use Rattle.command_words.proofs.AllPlaces.{one_all, some_all}
use Rattle.command_words.proofs.CommandWords.{IsNamed, read_rest, rest_read}
use Rattle.command_words.proofs.NumberWords.{one_number}
use Rattle.command_words.proofs.StormWords.{one_storm, some_storm}

-- ---- the cluster of two numbers

-- by the outcomes of the tests
abbrev shaped : Bool → Bool → Shape → Option Shape
shaped faults need shape = shape_if_ok (if faults then (if need then Ok shape else Err BadNeed) else Err BadFaults)

shaped-passes : (faults need : Bool) (shape : Shape) → faults ≡ true → need ≡ true → shaped faults need shape ≡ Some shape
shaped-passes true true shape p q = refl
shaped-passes true false shape p q = cc
shaped-passes false need shape p q = cc

passes-shaped : (faults need : Bool) (shape found : Shape) → shaped faults need shape ≡ Some found → (faults ≡ true) × (need ≡ true) × (shape ≡ found)
passes-shaped true true shape found h = (refl, refl, cc)
passes-shaped true false shape found h = cc
passes-shaped false need shape found h = cc

within : (low n high : ℕ) → low ≤ n → n ≤ high → (nat_le low n && nat_le n high) ≡ true
within low n high p q = grind (arith, nat_tests)

from_within : (low n high : ℕ) → (nat_le low n && nat_le n high) ≡ true → (low ≤ n) × (n ≤ high)
from_within low n high h = grind (arith, nat_tests)

grouped : (faults need : Option ℕ) (shape : Shape) → faults ≡ Some shape.faults → need ≡ Some shape.need → IsShape shape → shape_of faults need ≡ Some shape
grouped faults need shape is_faults is_need (some, few, wanted, enough) =
    ap (λ o. shape_of o need) is_faults ∙ ap (λ o. shape_of (Some shape.faults) o) is_need
    ∙ shaped-passes (nat_le 1 shape.faults && nat_le shape.faults 7) (nat_le 1 shape.need && nat_le shape.need (shape.faults + 1)) shape
    (within 1 shape.faults 7 some few) (within 1 shape.need (shape.faults + 1) wanted enough)

ungrouped : (faults need : Option ℕ) (shape : Shape) → shape_of faults need ≡ Some shape
    → (faults ≡ Some shape.faults) × (need ≡ Some shape.need) × IsShape shape
ungrouped None need shape h = cc
ungrouped (Some faults) None shape h = cc
ungrouped (Some faults) (Some need) shape h =
    let own : Shape = record { faults = faults; need = need } in
    let (few, enough, same) = passes-shaped (nat_le 1 faults && nat_le faults 7) (nat_le 1 need && nat_le need (faults + 1)) own shape h in
    let f = from_within 1 faults 7 few in
    let n = from_within 1 need (faults + 1) enough in
    (ap (λ g. Some g.faults) same, ap (λ g. Some g.need) same, subst (λ g. IsShape g) same (f.0, f.1, n.0, n.1))

command_IsShape : (command : Command) → IsCommand command → IsShape (command_shape command)
command_IsShape (Replay shape) inside = inside
command_IsShape (Node node) inside = inside.shape
command_IsShape (Ask ask) inside = inside.shape
command_IsShape (Split shape) inside = inside
command_IsShape (Join shape) inside = inside
command_IsShape (Storm storm) inside = inside.shape

-- ---- what is spelled is read, and what is read is spelled

SpellsCommand-read : (words : List (List ℕ)) (path : List ℕ) (command : Command) → SpellsCommand words path command → IsCommand command → plan words ≡ Some command
SpellsCommand-read words path command (faults, need, rest, is_faults, is_need, spelled, is) inside =
    let shape : Shape = command_shape command in
    ap plan is
    ∙ ap (λ o. command_of (command_name command) o rest)
    (grouped (number_of faults) (number_of need) shape (IsNumber-read faults shape.faults is_faults) (IsNumber-read need shape.need is_need) (command_IsShape command inside))
    ∙ rest_read rest path command spelled inside

-- how words that were read are spelled, and that they are in range
abbrev IsSpelled : List (List ℕ) → Command → Type 0
IsSpelled words command = (path : List ℕ) × SpellsCommand words path command × IsCommand command

read-SpellsCommand : (words : List (List ℕ)) (command : Command) → AreWords words → plan words ≡ Some command → IsSpelled words command
read-SpellsCommand [] command are read = cc
read-SpellsCommand (name ∷ []) command are read = cc
read-SpellsCommand (name ∷ faults ∷ []) command are read = cc
read-SpellsCommand (name ∷ faults ∷ need ∷ rest) command are read = by_shape (shape_of (number_of faults) (number_of need)) refl read where
  by_shape : (found : Option Shape) → shape_of (number_of faults) (number_of need) ≡ found → command_of name found rest ≡ Some command
      → IsSpelled (name ∷ faults ∷ need ∷ rest) command
  by_shape None found h = cc
  by_shape (Some shape) found h =
      let (is_faults, is_need, inside) = ungrouped (number_of faults) (number_of need) shape found in
      let behind : AreWords rest = All-tail AreBytes need rest (All-tail AreBytes faults (need ∷ rest) (All-tail AreBytes name (faults ∷ need ∷ rest) are)) in
      let m : IsNamed name shape rest command = read_rest name shape rest command inside behind h in (
        m.path,
        (
          faults,
          need,
          rest,
          subst (λ s. IsNumber faults s.faults) m.is_shape (read-IsNumber faults shape.faults is_faults),
          subst (λ s. IsNumber need s.need) m.is_shape (read-IsNumber need shape.need is_need),
          m.spells,
          ap (λ n. n ∷ faults ∷ need ∷ rest) m.is_name,
        ),
        m.inside,
      )

-- a command that is read is in range
pub plan_ranged : (words : List (List ℕ)) → AreWords words → IfSome (plan words) IsCommand
plan_ranged words are = by_found (plan words) refl where
  by_found : (found : Option Command) → plan words ≡ found → IfSome found IsCommand
  by_found None is = tt
  by_found (Some command) is = let (_, _, inside) = read-SpellsCommand words command are is in inside

-- words are a command exactly where they spell it in range
pub words_are_command : (words : List (List ℕ)) (command : Command) → AreWords words
    → (plan words ≡ Some command) ↔ ((path : List ℕ) × SpellsCommand words path command × IsCommand command)
words_are_command words command are = (read-SpellsCommand words command are, λ (path, spelled, inside). SpellsCommand-read words path command spelled inside)

-- and else none
pub words_are_none : (words : List (List ℕ)) → AreWords words
    → (plan words ≡ None) ↔ ((path : List ℕ) (command : Command) → SpellsCommand words path command → IsCommand command → ⊥)
words_are_none words are = (
  λ none path command spelled inside. not_both (plan words) command none (SpellsCommand-read words path command spelled inside),
  λ never. none_else (plan words) (λ command h. let (path, spelled, inside) = read-SpellsCommand words command are h in never path command spelled inside),
) where
  not_both : (found : Option Command) (command : Command) → found ≡ None → found ≡ Some command → ⊥
  not_both found command none some = cc

  none_else : (found : Option Command) → ((command : Command) → found ≡ Some command → ⊥) → found ≡ None
  none_else None never = refl
  none_else (Some command) never = absurd (never command refl)

-- ---- a command has one spelling with a path, and has one where it is in range

one_node : (words others : List (List ℕ)) (path : List ℕ) (node : NodeCommand) → SpellsNode words path node → SpellsNode others path node → words ≡ others
one_node words others path node (me, seed, turns, places, is_me, is_seed, is_turns, are, is) (me', seed', turns', places', is_me', is_seed', is_turns', are', is') =
    is ∙ ap (λ w. w ∷ seed ∷ turns ∷ path ∷ places) (one_number me me' node.me node.me is_me is_me' refl)
    ∙ ap (λ w. me' ∷ w ∷ turns ∷ path ∷ places) (one_number seed seed' node.seed node.seed is_seed is_seed' refl)
    ∙ ap (λ w. me' ∷ seed' ∷ w ∷ path ∷ places) (one_number turns turns' node.turns node.turns is_turns is_turns' refl)
    ∙ ap (λ ws. me' ∷ seed' ∷ turns' ∷ path ∷ ws) (one_all places places' node.places are are') ∙ sym is'

one_ask : (words others : List (List ℕ)) (ask : AskCommand) → SpellsAsk words ask → SpellsAsk others ask → words ≡ others
one_ask words others ask (client, seq, op, places, is_client, is_seq, is_op, are, is) (client', seq', op', places', is_client', is_seq', is_op', are', is') =
    let r = ask.request in
    is ∙ ap (λ w. w ∷ seq ∷ op ∷ r.key ∷ bytes_word r.value ∷ places) (one_number client client' r.client r.client is_client is_client' refl)
    ∙ ap (λ w. client' ∷ w ∷ op ∷ r.key ∷ bytes_word r.value ∷ places) (one_number seq seq' r.seq r.seq is_seq is_seq' refl)
    ∙ ap (λ w. client' ∷ seq' ∷ w ∷ r.key ∷ bytes_word r.value ∷ places) (one_op op op' r.op is_op is_op')
    ∙ ap (λ ws. client' ∷ seq' ∷ op' ∷ r.key ∷ bytes_word r.value ∷ ws) (one_all places places' ask.places are are') ∙ sym is'

one_rest : (words others : List (List ℕ)) (path : List ℕ) (command : Command) → SpellsRest words path command → SpellsRest others path command → words ≡ others
one_rest words others path (Replay shape) (_, is) (_, as_well) = is ∙ sym as_well
one_rest words others path (Node node) (_, spelled) (_, as_well) = one_node words others path node spelled as_well
one_rest words others path (Ask ask) (_, spelled) (_, as_well) = one_ask words others ask spelled as_well
one_rest words others path (Split shape) (_, is) (_, as_well) = is ∙ sym as_well
one_rest words others path (Join shape) (_, is) (_, as_well) = is ∙ sym as_well
one_rest words others path (Storm storm) (_, spelled) (_, as_well) = one_storm words others storm spelled as_well

pub one_command : (words others : List (List ℕ)) (path : List ℕ) (command : Command) → SpellsCommand words path command → SpellsCommand others path command → words ≡ others
one_command words others path command (faults, need, rest, is_faults, is_need, spelled, is) (faults', need', rest', is_faults', is_need', as_well, is') =
    let name : List ℕ = command_name command in
    let shape : Shape = command_shape command in
    is ∙ ap (λ w. name ∷ w ∷ need ∷ rest) (one_number faults faults' shape.faults shape.faults is_faults is_faults' refl)
    ∙ ap (λ w. name ∷ faults' ∷ w ∷ rest) (one_number need need' shape.need shape.need is_need is_need' refl)
    ∙ ap (λ ws. name ∷ faults' ∷ need' ∷ ws) (one_rest rest rest' path command spelled as_well) ∙ sym is'

some_rest : (command : Command) (path : List ℕ) → IsCommand command → IsPathOf command path → (words : List (List ℕ)) × SpellsRest words path command
some_rest (Replay shape) path inside none = ([], (none, refl))
some_rest (Node node) path inside some =
    let (places, are) = some_all node.places inside.places.1 in (
      decimal node.me ∷ decimal node.seed ∷ decimal node.turns ∷ path ∷ places,
      (
        some,
        (
          decimal node.me,
          decimal node.seed,
          decimal node.turns,
          places,
          decimal-IsNumber node.me (below_members node.shape node.me inside.shape inside.me),
          decimal-IsNumber node.seed inside.seed,
          decimal-IsNumber node.turns (turns_small node.turns inside.turns.1),
          are,
          refl,
        ),
      ),
    ) where
      below_members : (shape : Shape) (me : ℕ) → IsShape shape → me < members_of shape → me < 2 ^ 64
      below_members shape me (some, few, wanted, enough) small = omega arith

      turns_small : (turns : ℕ) → turns ≤ most_turns → turns < 2 ^ 64
      turns_small turns few = omega arith
some_rest (Ask ask) path inside none =
    let r = ask.request in
    let is = inside.request in
    let (places, are) = some_all ask.places inside.places.1 in
    let (op, is_op) = some_op r.op is.asked is.expected in (
      decimal r.client ∷ decimal r.seq ∷ op ∷ r.key ∷ bytes_word r.value ∷ places,
      (
        none,
        (
          decimal r.client,
          decimal r.seq,
          op,
          places,
          decimal-IsNumber r.client (fits r.client is.client.1),
          decimal-IsNumber r.seq (fits r.seq is.seq.1),
          is_op,
          are,
          refl,
        ),
      ),
    ) where
      fits : (n : ℕ) → n ≤ greatest → n < 2 ^ 64
      fits n few = omega arith
some_rest (Split shape) path inside none = ([], (none, refl))
some_rest (Join shape) path inside none = ([], (none, refl))
some_rest (Storm storm) path inside none = let (words, spelled) = some_storm storm inside in (words, (none, spelled))

pub some_command : (command : Command) (path : List ℕ) → IsCommand command → IsPathOf command path → (words : List (List ℕ)) × SpellsCommand words path command
some_command command path inside is_path =
    let shape : Shape = command_shape command in
    let fits = small shape (command_IsShape command inside) in
    let (rest, spelled) = some_rest command path inside is_path in (
      command_name command ∷ decimal shape.faults ∷ decimal shape.need ∷ rest,
      (decimal shape.faults, decimal shape.need, rest, decimal-IsNumber shape.faults fits.0, decimal-IsNumber shape.need fits.1, spelled, refl),
    ) where
      small : (shape : Shape) → IsShape shape → (shape.faults < 2 ^ 64) × (shape.need < 2 ^ 64)
      small shape (some, few, wanted, enough) = (omega arith, omega arith)

-- the path of a node's journal is found among its words
pub path_found : (words : List (List ℕ)) (path : List ℕ) (node : NodeCommand) → SpellsCommand words path (Node node) → path_in words ≡ Some path
path_found words path node (faults, need, rest, is_faults, is_need, (_, (me, seed, turns, places, is_me, is_seed, is_turns, are, is_rest)), is) =
    ap path_in is ∙ ap (λ ws. path_in (command_name (Node node) ∷ faults ∷ need ∷ ws)) is_rest
