-- What a rebuilder does with parts.
use Rattle.std.specs.Prelude.{◌≡◌, List, [], ◌∷◌}
use Rattle.entry_frames.specs.Views.{Viewed}
use Rattle.rs_code.specs.Answers.{answer_to, kept_after}
use Rattle.rs_code.specs.Rebuilding.{Rebuilding, TakenPart}

-- it is an entry whose value has the length of that one, and as long parts
pub record IsPartOf (own view : Viewed) : Type 0 where
  pub same_need : view.k ≡ own.k
  pub same_length : view.entry.head.vlen ≡ own.entry.head.vlen

-- with the first of these parts, if there is one
abbrev pub with_parts : List TakenPart → Rebuilding → Rebuilding
with_parts [] rebuilding = rebuilding
with_parts (part ∷ parts) rebuilding = kept_after (answer_to rebuilding part.member) rebuilding part.member part.bytes
