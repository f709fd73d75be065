-- The struct has no bytes, and the walk picks what it tells.
use Rattle.std.proofs.Common.{[], ◌∷◌, refl}
use Rattle.std.proofs.raw_atomic.Walks.{proved_at}
use denote.RattleType.{owns}
use denote.Signature.{types_at}
use denote.Steps.{nothing}
use denote.Triple.Entry.{alive}
use denote.Triple.Walked.{says, Stays, ends_at}
use types.ByLocal.{alloc_all, pass_all, free_all, look_at, sets}
use types.Kit.{‵, raw, ◌⊛◌, ◌$◌, ◌∵◌, !, qed, move, keep, drop, split, fjoin, suffices, done}
use types.Part.{agg}
use types.Run.{enter, returns, no_more}
use Rattle.crash_disk.proofs.Unit.{no_bytes, bare_made}
use Rattle.crash_disk.specs.Told.{made_with}
use Rattle.crash_disk.specs.declared.past.Past.{Past}
use Rattle.crash_disk.specs.contracts.past.Past.new as F
use Rattle.crash_disk.specs.contracts.past.Past.new.Key.{name as #self}
use Rattle.crash_disk.proofs.past.Past.new.Statement.{statement}
use Rattle.crash_disk.proofs.past.Past.new.Code as code

abbrev stayed : Stays (F.ended).signature.params (F.ended).kept
stayed = tt

abbrev picked : Past
picked = record { told = made_with [] [] }

pub new_spec : {M : Type 1} → statement M
new_spec 𝓤 𝓛 𝓜 𝓡 wired =
    let c = F.clauses 𝓛 𝓜.mem 𝓡.returns in
    proved_at 𝓛 F.ended stayed c 𝓜 𝓡 tt #self code.function (code.unfolded 𝓤 𝓛.H 𝓜 𝓡 wired) (λ y are.
    qed 𝓛 ((raw (alive 𝓛 (F.ended).signature y.0.0 y.0.1) ⊛ ‵ (owns (types_at (F.ended).signature.params y.0.0) y.0.3 y.0.4)) ∷ raw ((c y.0.0 y.0.3).requires y.1) ∷ []) ∵
    keep ! (0 ∷ []) $ split ! $ move ! (1 ∷ []) $ drop ! $
    enter ! _ _ _ _ _ $ alloc_all ! (λ l. pass_all ! refl tt $
    sets ! (agg ! (no_more !)) refl (tt, tt) $ nothing ! $ bare_made ! $ fjoin ! $
    returns ! (look_at ! 0 refl) $ free_all ! refl $
    suffices ! _ (ends_at 𝓛 F.ended stayed c y no_bytes picked tt tt) $ says ! refl $
    nothing ! $ move ! (2 ∷ 0 ∷ 1 ∷ []) $ done !))
