-- What a service stands for with one command more.
use Rattle.std.proofs.Common.{◌≡◌, ℕ, ◌+◌, List, ◌∷◌, Bool, true, false, length, Some, refl, sym, ap, ◌∙◌, arith}
use Rattle.std.specs.Prelude.{◌&&◌, bytes_eq, if◌then◌else◌}
use Rattle.craft_base.specs.declared.command.Head.{Head}
use Rattle.kv_apply.specs.Commands.{is_effective, is_of, is_write, last_of, outcome, version, version_left}
use Rattle.kv_apply.specs.Services.{Stands, present}
use Rattle.kv_apply.specs.declared.service.Service.{Service}

nothing_set : (of : Bool) {X : Type 0} (x y : X) → (if of && false then x else y) ≡ y
nothing_set true x y = refl
nothing_set false x y = refl

pub without_effect : (s : Service) (h : Head) (heads : List Head) (index : ℕ) → is_effective h heads ≡ false → index ≡ s.count + 1
    → Stands s heads → Stands (record s { count = index }) (h ∷ heads)
without_effect s h heads index none next stands = record {
  count = next ∙ ap (λ (n : ℕ). n + 1) stands.count ∙ omega arith;
  versions = λ key. stands.versions key ∙ ap present (sym (ap (λ test. if test && (bytes_eq h.key key && is_write h.op (version key heads)) then version_left h.op (length heads + 1) else version key heads) none));
  clients = λ client. stands.clients client ∙ sym (ap (λ test. if is_of client h && test then Some (record { number = h.seq; outcome = outcome h heads }) else last_of client heads) none ∙ nothing_set (is_of client h) _ _);
}
