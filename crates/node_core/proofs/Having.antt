-- A page that a leader takes for the value that it wants, and the value that it has then.
use Rattle.std.proofs.Common.{◌≡◌, ℕ, List, [], ◌∷◌, ◌++◌, map, Option, None, Some, refl, ap, sym, subst, ◌∙◌}
use Rattle.std.specs.Prelude.{◌==◌}
use Rattle.std.specs.Option.{option_map}
use Rattle.std.proofs.lemmas.List.{map-append}
use Rattle.std.proofs.lemmas.List.Elements.{filter-append}
use Rattle.std.proofs.lemmas.Option.{same_Some}
use Rattle.craft_base.specs.Shape.{Shape, IsShape}
use Rattle.craft_base.specs.declared.command.Entry.{Entry}
use Rattle.entry_frames.specs.Bodies.{HaveSpellings}
use Rattle.entry_frames.specs.Durable.{CanApplyAll, Durable}
use Rattle.entry_frames.specs.Records.{Whole}
use Rattle.entry_frames.specs.declared.role.Role.TheVariants.{Leader}
use Rattle.gather_read.specs.Gathered.{IsGiven, gathered, gathered_value}
use Rattle.gather_read.specs.declared.gather.Gather.{Gather}
use Rattle.leader_prep.specs.Pages.{Page, joined}
use Rattle.leader_prep.specs.Solutions.{value_of}
use Rattle.leader_prep.specs.Verdicts.{Source}
use Rattle.world_model.specs.Nodes.{Node}
use Rattle.world_model.specs.Ranges.{NodeInRange, PageInRange}
use Rattle.world_model.specs.Rules.Acts.{stays}
use Rattle.world_model.specs.Rules.Answer.{act_of_shown, act_of_source, act_of_value, node_shown, readers, source_of_part, values_told}
use Rattle.world_model.specs.Rules.Prepare.{cursor_at}
use Rattle.world_model.specs.declared.call.Called.{Called}
use Rattle.world_model.proofs.Ranges.Acts.{ActInRange}
use Rattle.world_model.proofs.Ranges.Answer.{shown_act_in_range}
use Rattle.node_core.specs.declared.member.Member.{Member}
use Rattle.node_core.specs.Acting.{IsNode, is_preparing}
use Rattle.node_core.specs.Stands.{IsGathering, IsWanted}
use Rattle.node_core.specs.Wanting.{MayHave, shown_act}
use Rattle.node_core.proofs.Ranging.{leader_starts}
use Rattle.node_core.proofs.Showing.{free_shown}
use Rattle.node_core.proofs.Wanting.{gathers_as}

-- the node that wants nothing, and was shown nothing
abbrev pub unwanting : Node → Node
unwanting n = record n { volatile = record n.volatile { want = None; pages = [] } }

-- ---- what the rule makes of a page

shown_none : (want : Option ℕ) (page : Page) (n : Node) → want ≡ None →
    act_of_shown want (record n { volatile = record n.volatile { pages = joined want page n.volatile.pages } }) ≡ stays n
shown_none None page n is = refl
shown_none (Some index) page n is = cc

-- who wants nothing leaves it
pub nothing_shown : (page : Page) (n : Node) → n.volatile.want ≡ None → shown_act page n ≡ stays n
nothing_shown page n is = shown_none n.volatile.want page n is

none_given : (source : Option Source) → IsGiven source None → source ≡ None
none_given None given = refl
none_given (Some source) given = absurd given

some_had : (index : ℕ) (value : List ℕ) (now : Node) (source : Option Source) → Some value ≡ option_map value_of source →
    act_of_source index source now ≡ act_of_value index value now
some_had index value now None had = cc
some_had index value now (Some source) had = ap (λ (v : List ℕ). act_of_value index v now) (sym (same_Some value (value_of source) had))

module _ (n : Node) (page : Page) (gather : Gather) (w : IsWanted gather n.shape n.me n.durable.log n.volatile.pages n.volatile.want) where
  -- what was shown then
  abbrev pub pages_now : List Page
  pages_now = joined (Some w.index) page n.volatile.pages

  shown_as : shown_act page n ≡ act_of_source w.index (gathered n.shape n.me w.index w.own pages_now) (node_shown page n)
  shown_as =
      ap (λ (want : Option ℕ). act_of_shown want (node_shown page n)) w.wants
      ∙ ap (λ (own : Option Entry). act_of_source w.index (source_of_part (node_shown page n) w.index own) (node_shown page n)) w.part
      ∙ ap (λ (want : Option ℕ). act_of_source w.index (gathered n.shape n.me w.index w.own (joined want page n.volatile.pages)) (node_shown page n)) w.wants

  pub waits_still : IsGiven (gathered n.shape n.me w.index w.own pages_now) None → shown_act page n ≡ stays (node_shown page n)
  waits_still given =
      shown_as ∙ ap (λ (source : Option Source). act_of_source w.index source (node_shown page n)) (none_given (gathered n.shape n.me w.index w.own pages_now) given)

  pub has_value : (value : List ℕ) → Some value ≡ gathered_value n.shape n.me w.index w.own pages_now → shown_act page n ≡ act_of_value w.index value (unwanting n)
  has_value value had = shown_as ∙ some_had w.index value (node_shown page n) (gathered n.shape n.me w.index w.own pages_now) had

-- ---- what the member stands for

module _ (m : Member) (n : Node) (is : IsNode m n) (leads : m.role ≡ Leader) where
  -- a leader that keeps something else of a want, and was shown other pages of it
  pub gathering_node : (own : Option Gather) (pages : List Page) (want : Option ℕ) → IsGathering Leader own n.shape n.me n.durable.log pages want →
      IsNode (record m { gather = own }) (record n { volatile = record n.volatile { pages = pages; want = want } })
  gathering_node own pages want kept =
      let s = is.stands in
      let now : Node = record n { volatile = record n.volatile { pages = pages; want = want } } in record {
        stands = record {
          of_shape = s.of_shape;
          of_me = s.of_me;
          of_durable = s.of_durable;
          of_role = s.of_role;
          of_quiet = s.of_quiet;
          of_hint = s.of_hint;
          of_heard = s.of_heard;
          settled = s.settled;
          of_prep = free_shown m.prep n.shape n.me pages m.role (cursor_at now) (ap is_preparing leads);
          of_gather = gathers_as n.shape n.me n.durable.log pages want m.role own leads kept;
          of_calls = s.of_calls;
          of_reads = s.of_reads;
        };
        of_store = is.of_store;
        of_service = is.of_service;
      }

-- other requests wait for a value
pub reading_node : (m new : Member) (reads : List Called) (n : Node) → IsNode m n → new ≡ record m { reads = new.reads } → new.reads.items ≡ reads →
    IsNode new (record n { volatile = record n.volatile { reads = reads } })
reading_node m new reads n is only are =
    let s = is.stands in
    let now : IsNode (record m { reads = new.reads }) (record n { volatile = record n.volatile { reads = reads } }) = record {
      stands = record {
        of_shape = s.of_shape;
        of_me = s.of_me;
        of_durable = s.of_durable;
        of_role = s.of_role;
        of_quiet = s.of_quiet;
        of_hint = s.of_hint;
        of_heard = s.of_heard;
        settled = s.settled;
        of_prep = s.of_prep;
        of_gather = s.of_gather;
        of_calls = s.of_calls;
        of_reads = are;
      };
      of_store = is.of_store;
      of_service = is.of_service;
    } in
    subst (λ (x : Member). IsNode x (record n { volatile = record n.volatile { reads = reads } })) (sym only) now

-- ---- that it may be had

pub may_have :
    (m : Member) (n : Node) → IsNode m n → NodeInRange n.shape n.me n → IsShape n.shape → m.role ≡ Leader → (page : Page) → PageInRange n.shape.need page →
    (index : ℕ) (value : List ℕ) → shown_act page n ≡ act_of_value index value (unwanting n) → MayHave index value (record m { gather = None })
may_have m n is ranged is_shape leads page fits index value has =
    let role : n.volatile.role ≡ Leader = sym is.stands.of_role ∙ leads in
    let a : ActInRange n.shape n.me n (act_of_value index value (unwanting n)) =
    subst (ActInRange n.shape n.me n) has (shown_act_in_range is_shape ranged page fits role) in record {
      node = unwanting n;
      is = gathering_node m n is leads None [] None refl;
      may = record {
        apply =
            subst (λ (s : Shape). CanApplyAll s m.store.kept (Whole index value ∷ [])) (sym is.of_store)
            (subst (λ (d : Durable). CanApplyAll n.shape d (Whole index value ∷ [])) (sym is.stands.of_durable) a.applies);
        written = subst (λ (s : Shape). HaveSpellings s.need (Whole index value ∷ [])) (sym is.of_store) a.written;
      };
      starts = leader_starts a.node role;
    }

-- ---- who is told

-- those of one more read
pub told_more : (index : ℕ) (value : List ℕ) (read : Called) (reads : List Called) →
    values_told index value (read ∷ reads) ≡ values_told index value (read ∷ []) ++ values_told index value reads
told_more index value read reads =
    ap (map _) (filter-append (λ (r : Called). r.index == index) (read ∷ []) reads)
    ∙ map-append _ (readers index (read ∷ [])) (readers index reads)
