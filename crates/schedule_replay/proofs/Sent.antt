-- The messages among what members tell.
use Rattle.std.proofs.Common.{◌≡◌, ℕ, ◌+◌, ◌<◌, List, [], ◌∷◌, ◌++◌, length, take, get_or, ap, ◌∙◌}
use Rattle.std.proofs.lemmas.List.{take_more}
use Rattle.entry_frames.specs.declared.output.Output.{Output}
use Rattle.world_model.specs.World.{sent_among}
use Rattle.world_model.proofs.Turns.{sent_among-append}

-- one output more
pub sent_among_more : (xs : List Output) (i : ℕ) (d : Output) → i < length xs
    → sent_among (take (i + 1) xs) ≡ sent_among (take i xs) ++ sent_among (get_or xs i d ∷ [])
sent_among_more xs i d within = ap sent_among (take_more xs i d within) ∙ sent_among-append (take i xs) (get_or xs i d ∷ [])
