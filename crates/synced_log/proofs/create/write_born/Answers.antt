use Rattle.std.proofs.Common.{◌≡◌, inl, ℕ, List, [], ◌∷◌, take, drop, get_or, ap, ◌∙◌, subst}
use Rattle.std.proofs.lemmas.Result.{err_from_is_err_and}
use Rattle.std.specs.Prelude.{Option, Some, IsTrue, is_err, option_map}
use Rattle.craft_edge.specs.DiskCalls.{DiskWork, WriteAt, Sync}
use Rattle.synced_log.specs.Calls.{Makes}
use Rattle.craft_edge.specs.Disk.{written, Torn, Only, OnlySeen}
use Rattle.synced_log.specs.Crashes.{TornFrom}
use Rattle.synced_log.specs.Creation.{CreationLeaves, IsBlank}
use Rattle.synced_log.proofs.Answering.{on_ok}
use Rattle.synced_log.proofs.Creating.{tail_of, tail_torn, tail_written, first_torn, first_written}
use Rattle.synced_log.proofs.Made.{made_first, made_both}
use Rattle.synced_log.proofs.Watching.{leaves_less, then_leaves}
use Rattle.synced_log.proofs.create.write_born.Goals as goal

abbrev some_of : List ℕ → Option (List ℕ)
some_of l = Some l

pub returns-in_err-write_steadily-clause-crash : goal.returns-in_err-write_steadily-clause-crash
returns-in_err-write_steadily-clause-crash g c =
    let d = g.D.Disk in
    let old = c.args.disk.now in
    let bytes = take 32 (drop 1 c.born_file-born.result) in
    let bytes_are : bytes ≡ tail_of c.args.owner = ap (λ (l : List ℕ). take 32 (drop 1 l)) c.born_file-born.ensures in
    leaves_less d.tells_crash d.tells_past d.moment d.may_leave d.left_since old c.write_steadily.new.disk (TornFrom (d.may_leave old) 1 bytes) (CreationLeaves IsBlank (d.seen old) (d.may_leave old) c.args.owner)
    (λ crash image t file seen_is blank only. inl (tail_torn c.args.owner file image blank
    (subst (λ (b : List ℕ). Torn 1 b file image) bytes_are (subst (λ (f : List ℕ). Torn 1 bytes f image) (only t.0 t.1) t.2))))
    c.write_steadily.ensures.crash

pub returns-clause-seen : goal.returns-clause-seen
returns-clause-seen g c =
    let d = g.D.Disk in
    let bytes_are : take 32 (drop 1 c.born_file-born.result) ≡ tail_of c.args.owner = ap (λ (l : List ℕ). take 32 (drop 1 l)) c.born_file-born.ensures in
    let first_is : take 1 c.born_file-born.result ≡ 67 ∷ [] = ap (λ (l : List ℕ). take 1 l) c.born_file-born.ensures in
    on_ok _ _ c.write_steadily-2.result (λ now file seen_is blank.
    now
    ∙ ap (λ s. option_map (λ f. written f 0 (take 1 c.born_file-born.result)) s)
    (c.in_ok-write_steadily.ensures.seen ∙ ap (λ s. option_map (λ f. written f 1 (take 32 (drop 1 c.born_file-born.result))) s) seen_is
    ∙ ap (λ (b : List ℕ). some_of (written file 1 b)) bytes_are ∙ ap some_of (tail_written c.args.owner file blank))
    ∙ ap (λ (b : List ℕ). some_of (written (get_or file 0 0 ∷ tail_of c.args.owner) 0 b)) first_is
    ∙ ap some_of (first_written c.args.owner (get_or file 0 0))) c.write_steadily-2.ensures.seen

pub returns-clause-crash : goal.returns-clause-crash
returns-clause-crash g c =
    let d = g.D.Disk in
    let old = c.args.disk.now in
    let mid = c.write_steadily.new.disk in
    let owner = c.args.owner in
    let P = CreationLeaves IsBlank (d.seen old) (d.may_leave old) owner in
    let bytes = take 32 (drop 1 c.born_file-born.result) in
    let bytes_are : bytes ≡ tail_of owner = ap (λ (l : List ℕ). take 32 (drop 1 l)) c.born_file-born.ensures in
    let first_is : take 1 c.born_file-born.result ≡ 67 ∷ [] = ap (λ (l : List ℕ). take 1 l) c.born_file-born.ensures in
    let staged : (file : List ℕ) → d.seen old ≡ Some file → IsBlank file → d.seen mid ≡ Some (get_or file 0 0 ∷ tail_of owner)
    = λ file seen_is blank. c.in_ok-write_steadily.ensures.seen ∙ ap (λ s. option_map (λ f. written f 1 bytes) s) seen_is ∙ ap (λ (b : List ℕ). some_of (written file 1 b)) bytes_are ∙ ap some_of (tail_written owner file blank) in
    let one = leaves_less d.tells_crash d.tells_past d.moment d.may_leave d.left_since old mid (TornFrom (d.may_leave old) 1 bytes) P
    (λ crash image t file seen_is blank only. inl (tail_torn owner file image blank (subst (λ (b : List ℕ). Torn 1 b file image) bytes_are (subst (λ (f : List ℕ). Torn 1 bytes f image) (only t.0 t.1) t.2))))
    c.write_steadily.ensures.crash in
    let two = leaves_less d.tells_crash d.tells_past d.moment d.may_leave d.left_since mid c.write_steadily-2.new.disk (TornFrom (d.may_leave mid) 0 (take 1 c.born_file-born.result)) P
    (λ crash image t file seen_is blank only.
    let durable : Only (get_or file 0 0 ∷ tail_of owner) (d.may_leave mid)
    = subst (λ s. OnlySeen s (d.may_leave mid)) (staged file seen_is blank) (c.in_ok-write_steadily.ensures.durable (subst IsTrue one.same_crash crash)) in
    first_torn owner (get_or file 0 0) image c.requires
    (subst (λ (b : List ℕ). Torn 0 b (get_or file 0 0 ∷ tail_of owner) image) first_is (subst (λ (f : List ℕ). Torn 0 (take 1 c.born_file-born.result) f image) (durable t.0 t.1) t.2)))
    c.write_steadily-2.ensures.crash in
    then_leaves d.tells_crash d.tells_past d.moment d.may_leave d.left_since old mid c.write_steadily-2.new.disk P one two

abbrev written_at : ℕ → List ℕ → List DiskWork
written_at at bytes = WriteAt at bytes ∷ Sync ∷ []

pub returns-in_err-write_steadily-clause-calls : goal.returns-in_err-write_steadily-clause-calls
returns-in_err-write_steadily-clause-calls g c =
    let d = g.D.Disk in
    let old = d.history c.args.disk.now in
    let new = d.history c.write_steadily.new.disk in
    let bytes_are : take 32 (drop 1 c.born_file-born.result) ≡ tail_of c.args.owner = ap (λ (l : List ℕ). take 32 (drop 1 l)) c.born_file-born.ensures in
    let failed = err_from_is_err_and c.from_residual.result c.from_residual.ensures.1 in
    made_first old new (written_at 1 (tail_of c.args.owner)) (written_at 0 (67 ∷ [])) c.write_steadily.result c.from_residual.result (ap is_err c.in_err-write_steadily.was) (ap is_err failed.1)
    (subst (λ (b : List ℕ). Makes old new (written_at 1 b) c.write_steadily.result) bytes_are c.write_steadily.ensures.history)

pub returns-clause-calls : goal.returns-clause-calls
returns-clause-calls g c =
    let d = g.D.Disk in
    let old = d.history c.args.disk.now in
    let mid = d.history c.write_steadily.new.disk in
    let new = d.history c.write_steadily-2.new.disk in
    let bytes_are : take 32 (drop 1 c.born_file-born.result) ≡ tail_of c.args.owner = ap (λ (l : List ℕ). take 32 (drop 1 l)) c.born_file-born.ensures in
    let first_is : take 1 c.born_file-born.result ≡ 67 ∷ [] = ap (λ (l : List ℕ). take 1 l) c.born_file-born.ensures in
    made_both old mid new (written_at 1 (tail_of c.args.owner)) (written_at 0 (67 ∷ [])) c.write_steadily.result c.write_steadily-2.result (ap is_err c.in_ok-write_steadily.was)
    (subst (λ (b : List ℕ). Makes old mid (written_at 1 b) c.write_steadily.result) bytes_are c.write_steadily.ensures.history)
    (subst (λ (b : List ℕ). Makes mid new (written_at 0 b) c.write_steadily-2.result) first_is c.write_steadily-2.ensures.history)
