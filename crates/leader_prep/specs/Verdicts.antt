-- What is decided of an entry of which the member that prepares holds a part alone.
use Rattle.std.specs.Prelude.{◌≡◌, ℕ, ◌<◌, List, [], ◌∷◌, length, take, All, Bool, true, false, ◌&&◌, ◌||◌, ◌==◌, nat_le, if◌then◌else◌, Option, None, Some}
use Rattle.std.specs.List.{count_by, flat_map}
use Rattle.std.specs.Option.{option_or}
use Rattle.std.specs.Str.{bytes_eq}
use Rattle.craft_base.specs.Knowledge.{members}
use Rattle.craft_base.specs.Shape.{Shape, majority_of}
use Rattle.craft_base.specs.declared.command.Entry.{Entry}
use Rattle.craft_base.specs.declared.command.Form.{Form}
use Rattle.craft_base.specs.declared.command.Form.TheVariants as forms
use Rattle.craft_base.specs.declared.command.Head.{Head}
use Rattle.craft_base.specs.declared.command.Op.{Op}
use Rattle.craft_base.specs.declared.command.Op.TheVariants as ops
use Rattle.rs_code.specs.Rebuilding.{AreFragments, Rebuilding, Solves, TakenPart}

-- ---- which slots count

abbrev pub is_same_op : Op → Op → Bool
is_same_op ops.Noop ops.Noop = true
is_same_op ops.Put ops.Put = true
is_same_op (ops.PutIf expected) (ops.PutIf other) = expected == other
is_same_op ops.Del ops.Del = true
is_same_op ops.Get ops.Get = true
is_same_op _ _ = false

abbrev pub is_same_head : Head → Head → Bool
is_same_head one other =
    (one.client == other.client) && (one.seq == other.seq) && is_same_op one.op other.op && bytes_eq one.key other.key
    && (one.vlen == other.vlen)

-- whether a slot counts: it has the term and the head of the member's own entry there
abbrev pub is_usable : Entry → Entry → Bool
is_usable own slot = (own.term == slot.term) && is_same_head own.head slot.head

-- the form of a slot that counts
abbrev pub form_in : Entry → Option Entry → Option Form
form_in own None = None
form_in own (Some slot) = if is_usable own slot then Some slot.form else None

-- the form in which a member is known to hold the entry: the member `me` that prepares, in that of its own, any other in that of its
-- slot, where this counts
abbrev pub usable_form : (me : ℕ) → Entry → (slot : ℕ → Option Entry) → ℕ → Option Form
usable_form me own slot member = if member == me then Some own.form else form_in own (slot member)

-- ---- where a value comes from

pub data Source : Type 0 where
  -- some member holds all of it
  Whole : (value : List ℕ) → Source
  -- as many members as are needed hold parts of it
  Parts : (parts : Rebuilding) → Source

-- these bytes are the one value that the parts give; where the parts are the fragments of some value, they are that one
pub record IsRebuilt (parts : Rebuilding) (bytes : List ℕ) : Type 0 where
  pub solution : Solves parts bytes
  pub only : (other : List ℕ) → Solves parts other → other ≡ bytes
  pub fragments : (value : List ℕ) → All (λ b. b < 256) value → length value ≡ parts.value_length → AreFragments parts value → bytes ≡ value

-- these bytes are the value that comes from there
abbrev pub IsValue : Source → List ℕ → Type 0
IsValue (Whole value) bytes = bytes ≡ value
IsValue (Parts parts) bytes = IsRebuilt parts bytes

-- ---- the forms of the members

abbrev pub whole_in : Option Form → Option (List ℕ)
whole_in (Some (forms.Whole bytes)) = Some bytes
whole_in _ = None

-- the value of the first of these members that holds all of it
abbrev pub first_whole : (ℕ → Option Form) → List ℕ → Option (List ℕ)
first_whole form [] = None
first_whole form (member ∷ others) = option_or (whole_in (form member)) (first_whole form others)

abbrev pub part_in : ℕ → Option Form → List TakenPart
part_in member (Some (forms.Part bytes)) = record { member = member; bytes = bytes } ∷ []
part_in member _ = []

-- the parts that these members hold, in order
abbrev pub parts_of : (ℕ → Option Form) → List ℕ → List TakenPart
parts_of form members = flat_map (λ member. part_in member (form member)) members

-- ---- the verdict

pub data Verdict : Type 0 where
  -- too few members have shown what they hold there
  Wait : Verdict
  -- the value is had from there
  Rebuild : (source : Source) → Verdict
  -- no leader of an earlier term can have committed it: the log is cut there
  Cut : Verdict

-- the value of the member's own entry, by as many of these parts as are needed, the first of them
abbrev pub rebuilding_by : Shape → Entry → List TakenPart → Rebuilding
rebuilding_by shape own parts = record { need = shape.need; value_length = own.head.vlen; parts = take shape.need parts }

-- as many parts as are needed give the value, those of the lowest members
abbrev pub verdict_of_parts : Shape → Entry → List TakenPart → Verdict
verdict_of_parts shape own parts =
    if nat_le shape.need (length parts) then Rebuild (Parts (rebuilding_by shape own parts)) else Cut

-- a whole value counts before parts
abbrev pub verdict_with : Option (List ℕ) → Verdict → Verdict
verdict_with (Some value) without = Rebuild (Whole value)
verdict_with None without = without

abbrev pub verdict_of_forms : Shape → Entry → (form : ℕ → Option Form) → Verdict
verdict_of_forms shape own form =
    verdict_with (first_whole form (members shape)) (verdict_of_parts shape own (parts_of form (members shape)))

-- whether more than half of the members, `me` among them, have shown what they hold there
abbrev pub is_covered : Shape → (me : ℕ) → (shown : ℕ → Bool) → Bool
is_covered shape me shown = nat_le (majority_of shape) (count_by (λ member. (member == me) || shown member) (members shape))

-- Verdict: what is decided of the member's own entry at an index, by which others have shown what they hold there, and what they hold
abbrev pub verdict : Shape → (me : ℕ) → Entry → (shown : ℕ → Bool) → (slot : ℕ → Option Entry) → Verdict
verdict shape me own shown slot =
    if is_covered shape me shown then verdict_of_forms shape own (usable_form me own slot) else Wait
