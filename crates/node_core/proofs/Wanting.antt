-- What a leader wants: the least of what somebody waits for, one after the other, and what it keeps of it.
use Rattle.std.proofs.Common.{◌≡◌, ℕ, ◌+◌, true, false, Bool, cond, not, min, List, [], ◌∷◌, ◌++◌, filter, map, Option, None, Some, refl, ap, sym, subst, ◌∙◌, arith, add-one}
use Rattle.std.specs.Prelude.{◌==◌, is_some}
use Rattle.std.specs.List.{range_with_len}
use Rattle.std.proofs.lemmas.List.{map-append}
use Rattle.std.proofs.lemmas.List.Elements.{filter-append}
use Rattle.std.proofs.lemmas.Option.{same_Some}
use Rattle.commit_rules.proofs.Rows.{row_more}
use Rattle.craft_base.specs.Knowledge.{least_of}
use Rattle.craft_base.specs.Shape.{Shape}
use Rattle.craft_base.specs.declared.command.Entry.{Entry}
use Rattle.entry_frames.specs.Entries.{is_whole}
use Rattle.entry_frames.specs.Logs.{entry_at, viewed_with}
use Rattle.entry_frames.specs.Views.{Viewed}
use Rattle.entry_frames.specs.declared.role.Role.{Role}
use Rattle.entry_frames.specs.declared.role.Role.TheVariants.{Leader}
use Rattle.gather_read.specs.declared.gather.Gather.{Gather}
use Rattle.leader_prep.specs.Decisions.{if_part}
use Rattle.leader_prep.specs.Pages.{Page}
use Rattle.world_model.specs.Nodes.{Node}
use Rattle.world_model.specs.Rules.Acts.{stays}
use Rattle.world_model.specs.Rules.Prepare.{act_of_asking_again}
use Rattle.world_model.specs.Rules.Want as rule
use Rattle.world_model.specs.Rules.Want.{is_part_at, least, part_at}
use Rattle.world_model.specs.declared.call.Called.{Called}
use Rattle.node_core.specs.Stands.{IsGathering, IsWanted}
use Rattle.node_core.specs.Wanting.{wanted_among}

-- an index that no request has
abbrev pub nobody : Called
nobody = record { index = 0; place = 0; client = 0; seq = 0 }

-- ---- the least

pub least_of_none : (one : Option ℕ) → least_of one None ≡ one
least_of_none None = refl
least_of_none (Some index) = refl

pub least_of-assoc : (one other third : Option ℕ) → least_of (least_of one other) third ≡ least_of one (least_of other third)
least_of-assoc None other third = refl
least_of-assoc (Some a) None third = refl
least_of-assoc (Some a) (Some b) None = refl
least_of-assoc (Some a) (Some b) (Some c) = let same : min (min a b) c ≡ min a (min b c) = omega arith in ap Some same

least-append : (indexes more : List ℕ) → least (indexes ++ more) ≡ least_of (least indexes) (least more)
least-append [] more = refl
least-append (index ∷ indexes) more =
    ap (least_of (Some index)) (least-append indexes more) ∙ sym (least_of-assoc (Some index) (least indexes) (least more))

pub wanted-append : (log : List Entry) (indexes more : List ℕ) → wanted_among log (indexes ++ more) ≡ least_of (wanted_among log indexes) (wanted_among log more)
wanted-append log indexes more = ap least (filter-append (is_part_at log) indexes more) ∙ least-append (filter (is_part_at log) indexes) (filter (is_part_at log) more)

-- ---- of the members

module _ (log : List Entry) (start : ℕ → ℕ) (me : ℕ) where
  -- of each of the first members but the member itself
  abbrev pub wanted_below : (members : ℕ) → Option ℕ
  wanted_below members = wanted_among log (map start (filter (λ member. not (member == me)) (range_with_len 0 members)))

  one_below : (number : ℕ) (is_me : Bool) → (number == me) ≡ is_me →
      wanted_below (number + 1) ≡ least_of (wanted_below number) (wanted_among log (map start (cond {A = List ℕ} (not is_me) (number ∷ []) [])))
  one_below number is_me e =
      let apart : ℕ → Bool = λ member. not (member == me) in
      ap (λ ks. wanted_among log (map start (filter apart ks))) (rw add-one (row_more 0 number number (omega arith)))
      ∙ ap (λ ks. wanted_among log (map start ks)) (filter-append apart (range_with_len 0 number) (number ∷ []))
      ∙ ap (wanted_among log) (map-append start (filter apart (range_with_len 0 number)) (filter apart (number ∷ [])))
      ∙ wanted-append log (map start (filter apart (range_with_len 0 number))) (map start (filter apart (number ∷ [])))
      ∙ ap (λ (b : Bool). least_of (wanted_below number) (wanted_among log (map start (cond {A = List ℕ} (not b) (number ∷ []) [])))) e

  pub other_below : (number : ℕ) (first before after : Option ℕ) → (number == me) ≡ false → before ≡ least_of first (wanted_below number) →
      after ≡ least_of before (wanted_among log (start number ∷ [])) → after ≡ least_of first (wanted_below (number + 1))
  other_below number first before after other so_far more =
      more ∙ ap (λ want. least_of want (wanted_among log (start number ∷ []))) so_far
      ∙ least_of-assoc first (wanted_below number) (wanted_among log (start number ∷ []))
      ∙ ap (least_of first) (sym (one_below number false other))

  pub itself_below : (number : ℕ) (first before : Option ℕ) → (number == me) ≡ true → before ≡ least_of first (wanted_below number) →
      before ≡ least_of first (wanted_below (number + 1))
  itself_below number first before own so_far =
      so_far ∙ ap (least_of first) (sym (least_of_none (wanted_below number)) ∙ sym (one_below number true own))

-- ---- a part of a log

part_as : (e : Entry) (whole : Bool) → is_whole e.form ≡ whole → is_some (cond {A = Option Entry} whole None (Some e)) ≡ true →
    (is_whole e.form ≡ false) × (cond {A = Option Entry} whole None (Some e) ≡ Some e)
part_as e true here is = cc
part_as e false here is = (here, refl)

-- an entry at whose index the log has a part is that part
pub part_of_entry : (log : List Entry) (index : ℕ) (e : Entry) → entry_at log index ≡ Some e → is_part_at log index ≡ true →
    (is_whole e.form ≡ false) × (part_at log index ≡ Some e)
part_of_entry log index e here is =
    let both = part_as e (is_whole e.form) refl (ap (λ (o : Option Entry). is_some (if_part o)) (sym here) ∙ is) in
    (both.0, ap if_part here ∙ both.1)

pub no_part : (log : List Entry) (index : ℕ) → entry_at log index ≡ None → is_part_at log index ≡ true → ⊥
no_part log index none is = absurd_by (ap (λ (o : Option Entry). is_some (if_part o)) (sym none) ∙ is) where
  absurd_by : false ≡ true → ⊥
  absurd_by e = cc

-- whether an index is wanted, by what stands there
pub wanted_whole : (log : List Entry) (index : ℕ) (e : Entry) → entry_at log index ≡ Some e → is_whole e.form ≡ true → wanted_among log (index ∷ []) ≡ None
wanted_whole log index e here whole =
    ap (λ (o : Option Entry). least (cond {A = List ℕ} (is_some (if_part o)) (index ∷ []) [])) here
    ∙ ap (λ (b : Bool). least (cond {A = List ℕ} (is_some (cond {A = Option Entry} b None (Some e))) (index ∷ []) [])) whole

pub wanted_part : (log : List Entry) (index : ℕ) (e : Entry) → entry_at log index ≡ Some e → is_whole e.form ≡ false → wanted_among log (index ∷ []) ≡ Some index
wanted_part log index e here part =
    ap (λ (o : Option Entry). least (cond {A = List ℕ} (is_some (if_part o)) (index ∷ []) [])) here
    ∙ ap (λ (b : Bool). least (cond {A = List ℕ} (is_some (cond {A = Option Entry} b None (Some e))) (index ∷ []) [])) part

pub wanted_nothing : (log : List Entry) (index : ℕ) → entry_at log index ≡ None → wanted_among log (index ∷ []) ≡ None
wanted_nothing log index none = ap (λ (o : Option Entry). least (cond {A = List ℕ} (is_some (if_part o)) (index ∷ []) [])) none

-- a view has the number that it was made with
pub need_viewed : (k : ℕ) (o : Option Entry) (v : Viewed) → Some v ≡ viewed_with k o → v.k ≡ k
need_viewed k None v is = cc
need_viewed k (Some e) v is = ap (λ (x : Viewed). x.k) (same_Some v (record { k = k; entry = e }) is)

-- ---- what is kept of a want

module _ (shape : Shape) (me : ℕ) (log : List Entry) (pages : List Page) (want : Option ℕ) where
  pub wanted_is : (role : Role) (own : Option Gather) (gather : Gather) → role ≡ Leader → own ≡ Some gather → IsGathering role own shape me log pages want →
      IsWanted gather shape me log pages want
  wanted_is role own gather leads there kept =
      subst (λ (o : Option Gather). IsGathering Leader o shape me log pages want) there (subst (λ (r : Role). IsGathering r own shape me log pages want) leads kept)

  pub unwanted_is : (role : Role) (own : Option Gather) → role ≡ Leader → own ≡ None → IsGathering role own shape me log pages want → want ≡ None
  unwanted_is role own leads none kept =
      subst (λ (o : Option Gather). IsGathering Leader o shape me log pages want) none (subst (λ (r : Role). IsGathering r own shape me log pages want) leads kept)

  pub gathers_as : (role : Role) (own : Option Gather) → role ≡ Leader → IsGathering Leader own shape me log pages want → IsGathering role own shape me log pages want
  gathers_as role own leads kept = subst (λ (r : Role). IsGathering r own shape me log pages want) (sym leads) kept

-- ---- the rule

module _ (n : Node) where
  abbrev same_want : Bool
  same_want = rule.is_same_want n.volatile.want (rule.want_of n)

  -- by what is kept of it, and by what is wanted now
  pub same_by : (gathered want : Option ℕ) → gathered ≡ n.volatile.want → want ≡ rule.want_of n → same_want ≡ rule.is_same_want gathered want
  same_by gathered want kept wanted = ap (λ (one : Option ℕ). rule.is_same_want one (rule.want_of n)) (sym kept) ∙ ap (rule.is_same_want gathered) (sym wanted)

  pub wants_still : same_want ≡ true → rule.act_of_want_as Leader n ≡ stays n
  wants_still same = ap (λ (b : Bool). cond b (stays n) (rule.act_of_new_want (rule.want_of n) n)) same

  pub wants_anew : same_want ≡ false → rule.act_of_want_as Leader n ≡ rule.act_of_new_want (rule.want_of n) n
  wants_anew other = ap (λ (b : Bool). cond b (stays n) (rule.act_of_new_want (rule.want_of n) n)) other

  pub gathers_still : same_want ≡ true → rule.act_of_gathering n ≡ act_of_asking_again (rule.want_of n) n
  gathers_still same = ap (λ (b : Bool). cond b (act_of_asking_again (rule.want_of n) n) (rule.act_of_new_want (rule.want_of n) n)) same

  pub gathers_anew : same_want ≡ false → rule.act_of_gathering n ≡ rule.act_of_new_want (rule.want_of n) n
  gathers_anew other = ap (λ (b : Bool). cond b (act_of_asking_again (rule.want_of n) n) (rule.act_of_new_want (rule.want_of n) n)) other
