-- The lines of what is told, one after the other.
use Rattle.std.proofs.Common.{◌≡◌, ℕ, suc, ◌+◌, ◌<◌, List, ◌∷◌, ◌++◌, length, get_or, drop, ap, ◌∙◌, sym, add-one, append_assoc}
use Rattle.std.proofs.Math.Seq.{drop-cons}
use Rattle.world_model.specs.Lines.{output_line, output_lines, next_frame}
use Rattle.entry_frames.specs.declared.output.Output.{Output}

-- what is left to tell begins with what stands there
pub next_output : (told : List Output) (i : ℕ) (item : Output) → i < length told → item ≡ get_or told i item → drop i told ≡ item ∷ drop (i + 1) told
next_output told i item within is =
    rw add-one (drop-cons told i item within ∙ ap (λ first. first ∷ drop (suc i) told) (sym is))

-- the line of one output, and the lines of what is left
pub printed_more : (text longer : List ℕ) (me frame next : ℕ) (o : Output) (left rest : List Output) → left ≡ o ∷ rest
    → longer ≡ text ++ output_line me frame o → next ≡ next_frame frame o → longer ++ output_lines me next rest ≡ text ++ output_lines me frame left
printed_more text longer me frame next o left rest is_left line number =
    ap (λ t. t ++ output_lines me next rest) line
    ∙ ap (λ k. (text ++ output_line me frame o) ++ output_lines me k rest) number
    ∙ append_assoc text (output_line me frame o) (output_lines me (next_frame frame o) rest)
    ∙ sym (ap (λ os. text ++ output_lines me frame os) is_left)
