-- The words behind a command's name: what reads them and what spells them say the same.
use Rattle.std.proofs.Common.{◌≡◌, ℕ, ◌<◌, List, [], ◌∷◌, Bool, true, false, length, refl, ap, ◌∙◌, sym, subst, arith, Option, None, Some}
use Rattle.std.specs.Prelude.{◌≢◌, ◌==◌, nat_lt, codes, if◌then◌else◌}
use Rattle.std.specs.Str.{bytes_eq}
use Rattle.std.proofs.lemmas.Bool.Decides.{nat_tests}
use Rattle.std.proofs.lemmas.List.Elements.{All-head, All-tail}
use Rattle.std.proofs.lemmas.Slice.Eq.{bytes_eq-Decides}
use Rattle.craft_base.specs.Shape.{Shape, IsShape, members_of}
use Rattle.craft_base.specs.declared.command.Request.{Request}
use Rattle.entry_frames.specs.Formats.{AreBytes}
use Rattle.command_words.specs.Places.{places_in}
use Rattle.command_words.specs.Spelling.{ArePlaces, AreWords, IsAsk, IsCommand, IsNode, SpellsAsk, SpellsNode, SpellsRest, command_name, command_shape}
use Rattle.command_words.specs.Words.{alone, ask_in, ask_of, command_named, most_turns, node_in, node_of, request_in, storm_in}
use Rattle.command_words.specs.declared.command.AskCommand.{AskCommand}
use Rattle.command_words.specs.declared.command.Command.{Command}
use Rattle.command_words.specs.declared.command.Command.TheVariants.{Replay, Node, Ask, Split, Join, Storm}
use Rattle.command_words.specs.declared.command.NodeCommand.{NodeCommand}
use Rattle.world_model.specs.Calls.{number_within}
use Rattle.world_model.specs.Lines.{bytes_word}
use Rattle.world_model.specs.Numbers.{number_of}
use Rattle.world_model.specs.Schedule.{member_of}
use Rattle.world_model.proofs.Spelling.{IsNumber-read, IsNumber-small, read-IsNumber}
use Rattle.command_words.proofs.AllPlaces.{places_read, read_places}
use Rattle.command_words.proofs.NumberWords.{read_within, within_read}
use Rattle.command_words.proofs.StormWords.{read_storm, storm_read}
use Rattle.command_words.proofs.TextRequests.{IsAsked, read_text_request, text_request_read}

-- ---- what is spelled is read

filled : (byte : ℕ) (bytes : List ℕ) → (length (byte ∷ bytes) == 0) ≡ false
filled byte bytes = by_size (length (byte ∷ bytes)) (omega arith) where
  by_size : (size : ℕ) → 0 < size → (size == 0) ≡ false
  by_size size some = grind (arith, nat_tests)

noded : (node : NodeCommand) (me seed turns : Option ℕ) (path : List ℕ) (places : Option (List ℕ)) → me ≡ Some node.me → seed ≡ Some node.seed
    → turns ≡ Some node.turns → path ≢ [] → places ≡ Some node.places → node_of node.shape me seed turns path places ≡ Some (Node node)
noded node me seed turns path places is_me is_seed is_turns some are_places =
    ap (λ o. node_of node.shape o seed turns path places) is_me ∙ ap (λ o. node_of node.shape (Some node.me) o turns path places) is_seed
    ∙ ap (λ o. node_of node.shape (Some node.me) (Some node.seed) o path places) is_turns
    ∙ ap (λ o. node_of node.shape (Some node.me) (Some node.seed) (Some node.turns) path o) are_places
    ∙ by_path path some where
      by_path : (path : List ℕ) → path ≢ [] → node_of node.shape (Some node.me) (Some node.seed) (Some node.turns) path (Some node.places) ≡ Some (Node node)
      by_path [] some = absurd (some refl)
      by_path (byte ∷ bytes) some = ap (λ test. if test then None else Some (Node node)) (filled byte bytes)

node_read : (words : List (List ℕ)) (path : List ℕ) (node : NodeCommand) → path ≢ [] → SpellsNode words path node → IsNode node
    → node_in node.shape words ≡ Some (Node node)
node_read words path node some (me, seed, turns, places, is_me, is_seed, is_turns, spelled, is) inside =
    ap (node_in node.shape) is
    ∙ noded node (member_of node.shape (number_of me)) (number_of seed) (number_within 1 most_turns (number_of turns)) path (places_in node.shape places)
    (ap (member_of node.shape) (IsNumber-read me node.me is_me) ∙ member node.me (members_of node.shape) inside.me) (IsNumber-read seed node.seed is_seed)
    (within_read 1 most_turns turns node.turns (is_turns, inside.turns.0, inside.turns.1)) some
    (places_read node.shape places node.places spelled inside.places.0) where
      member : (me members : ℕ) → me < members → (if nat_lt me members then Some me else None) ≡ Some me
      member me members small = grind (arith, nat_tests)

ask_read : (words : List (List ℕ)) (ask : AskCommand) → SpellsAsk words ask → IsAsk ask → ask_in ask.shape words ≡ Some (Ask ask)
ask_read words ask (client, seq, op, places, is_client, is_seq, is_op, spelled, is) inside =
    ap (ask_in ask.shape) is
    ∙ ap (λ o. ask_of ask.shape o (places_in ask.shape places)) (text_request_read client seq op ask.request is_client is_seq is_op inside.request)
    ∙ ap (λ o. ask_of ask.shape (Some ask.request) o) (places_read ask.shape places ask.places spelled inside.places.0)

pub rest_read : (rest : List (List ℕ)) (path : List ℕ) (command : Command) → SpellsRest rest path command → IsCommand command
    → command_named (command_name command) (command_shape command) rest ≡ Some command
rest_read rest path (Replay shape) (_, is) inside = ap (alone (Replay shape)) is
rest_read rest path (Node node) (some, spelled) inside = node_read rest path node some spelled inside
rest_read rest path (Ask ask) (_, spelled) inside = ask_read rest ask spelled inside
rest_read rest path (Split shape) (_, is) inside = ap (alone (Split shape)) is
rest_read rest path (Join shape) (_, is) inside = ap (alone (Join shape)) is
rest_read rest path (Storm storm) (_, spelled) inside = storm_read rest storm spelled inside

-- ---- what is read is spelled

-- what a member was made of
record IsMade (shape : Shape) (me seed turns : Option ℕ) (path : List ℕ) (places : Option (List ℕ)) (command : Command) : Type 0 where
  node : NodeCommand
  is_me : me ≡ Some node.me
  is_seed : seed ≡ Some node.seed
  is_turns : turns ≡ Some node.turns
  some : path ≢ []
  are_places : places ≡ Some node.places
  is_shape : node.shape ≡ shape
  same : Node node ≡ command

unnoded : (shape : Shape) (me seed turns : Option ℕ) (path : List ℕ) (places : Option (List ℕ)) (command : Command)
    → node_of shape me seed turns path places ≡ Some command → IsMade shape me seed turns path places command
unnoded shape None seed turns path places command h = cc
unnoded shape (Some me) None turns path places command h = cc
unnoded shape (Some me) (Some seed) None path places command h = cc
unnoded shape (Some me) (Some seed) (Some turns) path None command h = cc
unnoded shape (Some me) (Some seed) (Some turns) [] (Some places) command h = cc
unnoded shape (Some me) (Some seed) (Some turns) (byte ∷ bytes) (Some places) command h =
    let own : NodeCommand = record { shape = shape; me = me; seed = seed; turns = turns; places = places } in
    record {
      node = own;
      is_me = refl;
      is_seed = refl;
      is_turns = refl;
      some = λ k. not_empty k;
      are_places = refl;
      is_shape = refl;
      same = taken own (skipped (length (byte ∷ bytes) == 0) (Some (Node own)) (filled byte bytes) h);
    } where
      not_empty : byte ∷ bytes ≡ [] → ⊥
      not_empty k = cc

      skipped : (test : Bool) (found : Option Command) → test ≡ false → (if test then None else found) ≡ Some command → found ≡ Some command
      skipped true found is h = cc
      skipped false found is h = h

      taken : (own : NodeCommand) → Some (Node own) ≡ Some command → Node own ≡ command
      taken own h = cc

-- a command of that name, as its words were read
pub record IsNamed (name : List ℕ) (shape : Shape) (rest : List (List ℕ)) (command : Command) : Type 0 where
  pub path : List ℕ
  pub is_name : name ≡ command_name command
  pub is_shape : shape ≡ command_shape command
  pub spells : SpellsRest rest path command
  pub inside : IsCommand command

read_node : (shape : Shape) (rest : List (List ℕ)) (command : Command) → IsShape shape → node_in shape rest ≡ Some command
    → IsNamed (codes "node") shape rest command
read_node shape [] command is_shape read = cc
read_node shape (me ∷ []) command is_shape read = cc
read_node shape (me ∷ seed ∷ []) command is_shape read = cc
read_node shape (me ∷ seed ∷ turns ∷ []) command is_shape read = cc
read_node shape (me ∷ seed ∷ turns ∷ path ∷ places) command is_shape read =
    let m = unnoded shape (member_of shape (number_of me)) (number_of seed) (number_within 1 most_turns (number_of turns)) path (places_in shape places) command read in
    let node : NodeCommand = m.node in
    let member = membered (number_of me) node.me m.is_me in
    let seeded = read-IsNumber seed node.seed m.is_seed in
    let counted = read_within 1 most_turns turns node.turns m.is_turns in
    let placed = read_places shape places node.places m.are_places in
    let ranges : IsNode node = record {
      shape = subst IsShape (sym m.is_shape) is_shape;
      me = subst (λ s. node.me < members_of s) (sym m.is_shape) member.1;
      seed = IsNumber-small seed node.seed seeded;
      turns = (counted.1, counted.2);
      places = subst (λ s. ArePlaces s node.places) (sym m.is_shape) placed.1;
    } in
    subst (IsNamed (codes "node") shape (me ∷ seed ∷ turns ∷ path ∷ places)) m.same (record {
      path = path;
      is_name = refl;
      is_shape = sym m.is_shape;
      spells = (m.some, (me, seed, turns, places, read-IsNumber me node.me member.0, seeded, counted.0, placed.0, refl));
      inside = ranges;
    }) where
      membered : (found : Option ℕ) (member : ℕ) → member_of shape found ≡ Some member → (found ≡ Some member) × (member < members_of shape)
      membered None member h = cc
      membered (Some n) member h = by_test n (members_of shape) member h where
        by_test : (n members member : ℕ) → (if nat_lt n members then Some n else None) ≡ Some member → (Some n ≡ Some member) × (member < members)
        by_test n members member h = grind (arith, nat_tests)

unasked : (shape : Shape) (request : Option Request) (places : Option (List ℕ)) (command : Command) → ask_of shape request places ≡ Some command
    → (ask : AskCommand) × (request ≡ Some ask.request) × (places ≡ Some ask.places) × (ask.shape ≡ shape) × (Ask ask ≡ command)
unasked shape None places command h = cc
unasked shape (Some request) None command h = cc
unasked shape (Some request) (Some places) command h =
    let own : AskCommand = record { shape = shape; request = request; places = places } in
    (own, refl, refl, refl, taken own h) where
      taken : (own : AskCommand) → Some (Ask own) ≡ Some command → Ask own ≡ command
      taken own h = cc

read_ask : (shape : Shape) (rest : List (List ℕ)) (command : Command) → IsShape shape → AreWords rest → ask_in shape rest ≡ Some command
    → IsNamed (codes "ask") shape rest command
read_ask shape [] command is_shape are read = cc
read_ask shape (client ∷ []) command is_shape are read = cc
read_ask shape (client ∷ seq ∷ []) command is_shape are read = cc
read_ask shape (client ∷ seq ∷ op ∷ []) command is_shape are read = cc
read_ask shape (client ∷ seq ∷ op ∷ key ∷ []) command is_shape are read = cc
read_ask shape (client ∷ seq ∷ op ∷ key ∷ value ∷ places) command is_shape are read =
    let (ask, is_request, are_places, is_own, same) = unasked shape (request_in client seq op key value) (places_in shape places) command read in
    let is_text : AreBytes key = All-head AreBytes key (value ∷ places)
    (All-tail AreBytes op (key ∷ value ∷ places) (All-tail AreBytes seq (op ∷ key ∷ value ∷ places) (All-tail AreBytes client (seq ∷ op ∷ key ∷ value ∷ places) are))) in
    let asked : IsAsked client seq op key value ask.request = read_text_request client seq op key value ask.request is_text is_request in
    let placed = read_places shape places ask.places are_places in
    let ranges : IsAsk ask = record {
      shape = subst IsShape (sym is_own) is_shape;
      request = asked.inside;
      places = subst (λ s. ArePlaces s ask.places) (sym is_own) placed.1;
    } in
    let words : client ∷ seq ∷ op ∷ key ∷ value ∷ places ≡ client ∷ seq ∷ op ∷ ask.request.key ∷ bytes_word ask.request.value ∷ places =
    ap (λ k. client ∷ seq ∷ op ∷ k ∷ value ∷ places) asked.key ∙ ap (λ v. client ∷ seq ∷ op ∷ ask.request.key ∷ v ∷ places) asked.value in
    subst (IsNamed (codes "ask") shape (client ∷ seq ∷ op ∷ key ∷ value ∷ places)) same (record {
      path = [];
      is_name = refl;
      is_shape = sym is_own;
      spells = (refl, (client, seq, op, places, asked.client, asked.seq, asked.op, placed.0, words));
      inside = ranges;
    })

unalone : (own command : Command) (rest : List (List ℕ)) → alone own rest ≡ Some command → (own ≡ command) × (rest ≡ [])
unalone own command [] h = (taken h, refl) where
  taken : Some own ≡ Some command → own ≡ command
  taken h = cc
unalone own command (word ∷ words) h = cc

pub read_rest : (name : List ℕ) (shape : Shape) (rest : List (List ℕ)) (command : Command) → IsShape shape → AreWords rest
    → command_named name shape rest ≡ Some command → IsNamed name shape rest command
read_rest name shape rest command is_shape are =
    by_name
    (bytes_eq name (codes "replay")) (bytes_eq name (codes "node")) (bytes_eq name (codes "ask")) (bytes_eq name (codes "split")) (bytes_eq name (codes "join")) (bytes_eq name (codes "storm")) refl refl refl refl refl refl where
      named : (word : List ℕ) → bytes_eq name word ≡ true → IsNamed word shape rest command → IsNamed name shape rest command
      named word is h = subst (λ w. IsNamed w shape rest command) (sym ((bytes_eq-Decides name word).0 is)) h

      of_replay : alone (Replay shape) rest ≡ Some command → IsNamed (codes "replay") shape rest command
      of_replay h = let (same, none) = unalone (Replay shape) command rest h in
          subst (IsNamed (codes "replay") shape rest) same (record { path = []; is_name = refl; is_shape = refl; spells = (refl, none); inside = is_shape })

      of_split : alone (Split shape) rest ≡ Some command → IsNamed (codes "split") shape rest command
      of_split h = let (same, none) = unalone (Split shape) command rest h in
          subst (IsNamed (codes "split") shape rest) same (record { path = []; is_name = refl; is_shape = refl; spells = (refl, none); inside = is_shape })

      of_join : alone (Join shape) rest ≡ Some command → IsNamed (codes "join") shape rest command
      of_join h = let (same, none) = unalone (Join shape) command rest h in
          subst (IsNamed (codes "join") shape rest) same (record { path = []; is_name = refl; is_shape = refl; spells = (refl, none); inside = is_shape })

      of_storm : storm_in shape rest ≡ Some command → IsNamed (codes "storm") shape rest command
      of_storm h = let (storm, spelled, inside, is_own, same) = read_storm shape rest command is_shape h in
          subst (IsNamed (codes "storm") shape rest) same (record { path = []; is_name = refl; is_shape = sym is_own; spells = (refl, spelled); inside = inside })

      by_name : (replay node ask split join storm : Bool) → bytes_eq name (codes "replay") ≡ replay → bytes_eq name (codes "node") ≡ node
          → bytes_eq name (codes "ask") ≡ ask → bytes_eq name (codes "split") ≡ split → bytes_eq name (codes "join") ≡ join → bytes_eq name (codes "storm") ≡ storm
          → (if replay then alone (Replay shape) rest else if node then node_in shape rest else if ask then ask_in shape rest
          else if split then alone (Split shape) rest else if join then alone (Join shape) rest else if storm then storm_in shape rest else None) ≡ Some command
          → IsNamed name shape rest command
      by_name true node ask split join storm is_replay is_node is_ask is_split is_join is_storm h = named (codes "replay") is_replay (of_replay h)
      by_name false true ask split join storm is_replay is_node is_ask is_split is_join is_storm h = named (codes "node") is_node (read_node shape rest command is_shape h)
      by_name false false true split join storm is_replay is_node is_ask is_split is_join is_storm h = named (codes "ask") is_ask (read_ask shape rest command is_shape are h)
      by_name false false false true join storm is_replay is_node is_ask is_split is_join is_storm h = named (codes "split") is_split (of_split h)
      by_name false false false false true storm is_replay is_node is_ask is_split is_join is_storm h = named (codes "join") is_join (of_join h)
      by_name false false false false false true is_replay is_node is_ask is_split is_join is_storm h = named (codes "storm") is_storm (of_storm h)
      by_name false false false false false false is_replay is_node is_ask is_split is_join is_storm h = cc
