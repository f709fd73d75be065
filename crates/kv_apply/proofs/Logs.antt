-- The commands of a log with one entry more.
use Rattle.std.proofs.Common.{◌≡◌, List, [], ◌∷◌, ◌++◌, map, reverse, ap, ◌∙◌}
use Rattle.std.proofs.lemmas.List.{map-append, reverse-append}
use Rattle.craft_base.specs.declared.command.Entry.{Entry}
use Rattle.craft_base.specs.declared.command.Head.{Head}
use Rattle.kv_apply.specs.Commands.{heads_of}

pub heads_with : (log : List Entry) (e : Entry) → heads_of (log ++ e ∷ []) ≡ e.head ∷ heads_of log
heads_with log e = ap (λ (heads : List Head). reverse heads) (map-append (λ e. e.head) log (e ∷ [])) ∙ reverse-append (map (λ e. e.head) log) (e.head ∷ [])
