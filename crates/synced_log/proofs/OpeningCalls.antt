-- The calls that open a journal.
use Rattle.std.proofs.Common.{◌≡◌, ◌⊎◌, inl, inr, ⊎_elim, ℕ, List, [], ◌∷◌, ◌++◌, length, get_or, Result, Ok, Err, refl, sym, ap, ◌∙◌, arith}
use Rattle.std.specs.Prelude.{Option, None, Some, IfSome, IfErr, false, true}
use Rattle.std.proofs.lemmas.Bool.{cases_eq, cases_lt}
use Rattle.std.proofs.lemmas.List.{append-nil}
use Rattle.craft_edge.specs.DiskCalls.{DiskHistory, DiskWork, Sync, after_call_of}
use Rattle.synced_log.specs.declared.fault.OpenFault.{OpenFault}
use Rattle.synced_log.specs.declared.fault.OpenFault.TheVariants.{DiskFault, BadJournal, WrongOwner, OutOfMemory}
use Rattle.synced_log.specs.declared.owner.Owner.{Owner}
use Rattle.synced_log.specs.Calls.{FailsIn, AllMade, OneFailed, MakesUpTo, MakesOrFaults, AreReadings, IsCreation, creation_calls, ReadsAndCreates, BehindSync, after_calls}
use Rattle.synced_log.specs.Journal.{IsUnborn, IsBorn}
use Rattle.synced_log.proofs.Made.{after_calls-append, fails_before, fails_behind}

born_or_not : (file : List ℕ) → IsUnborn file ⊎ IsBorn file
born_or_not file = elim (cases_lt (length file) 33) [
  | inl short ↦ inl (inl short)
  | inr long ↦ elim (cases_eq (length file) 33) [
    | inl just ↦ elim (cases_eq (get_or file 0 0) 67) [
      | inl first ↦ inr (λ u. ⊎_elim (λ short. omega (arith, short, long)) (λ x. x.1 first) u)
      | inr other ↦ inl (inr (just, other))
    ]
    | inr more ↦ inr (λ u. ⊎_elim (λ short. omega (arith, short, long)) (λ x. more x.0) u)
  ]
]

steps_of : (file : List ℕ) (wanted : Owner) → (steps : List DiskWork) × IsCreation file wanted steps
steps_of file wanted = ⊎_elim (λ u. (creation_calls file wanted, inl (u, refl))) (λ b. ([], inr (b, refl))) (born_or_not file)

file_of : (seen : Option (List ℕ)) → (file : List ℕ) × IfSome seen (λ f. file ≡ f)
file_of None = ([], tt)
file_of (Some f) = (f, refl)

-- reading ended with a fault
pub reading_faulty : (old new : Option DiskHistory) (seen : Option (List ℕ)) (wanted : Owner) (fault : OpenFault) → MakesUpTo fault old new AreReadings AreReadings
    → MakesUpTo fault old new (ReadsAndCreates seen wanted) AreReadings
reading_faulty old new seen wanted DiskFault m =
    let f = file_of seen in
    let s = steps_of f.0 wanted in
    record {
      works = m.works ++ s.0;
      are = record { readings = m.works; are_readings = m.are; file = f.0; file_is = f.1; steps = s.0; steps_are = s.1; is = refl };
      fails = fails_before old new m.works s.0 m.fails;
    }
reading_faulty old new seen wanted (BadJournal offset) m = m
reading_faulty old new seen wanted (WrongOwner found other) m = m
reading_faulty old new seen wanted OutOfMemory m = m

-- the file was read, and then it was created, as far as that goes
pub created_all : (old mid new : Option DiskHistory) (seen : Option (List ℕ)) (wanted : Owner) (file : List ℕ) → AllMade old mid AreReadings → IfSome seen (λ f. file ≡ f) → IsUnborn file
    → new ≡ after_calls mid (creation_calls file wanted) → AllMade old new (ReadsAndCreates seen wanted)
created_all old mid new seen wanted file a is unborn made = record {
  works = a.works ++ creation_calls file wanted;
  are = record { readings = a.works; are_readings = a.are; file = file; file_is = is; steps = creation_calls file wanted; steps_are = inl (unborn, refl); is = refl };
  is = made ∙ ap (λ (h : Option DiskHistory). after_calls h (creation_calls file wanted)) a.is ∙ sym (after_calls-append old a.works (creation_calls file wanted));
}

pub created_some : (old mid new : Option DiskHistory) (seen : Option (List ℕ)) (wanted : Owner) (file : List ℕ) → AllMade old mid AreReadings → IfSome seen (λ f. file ≡ f) → IsUnborn file
    → FailsIn mid new (creation_calls file wanted) → OneFailed old new (ReadsAndCreates seen wanted)
created_some old mid new seen wanted file a is unborn fails = record {
  works = a.works ++ creation_calls file wanted;
  are = record { readings = a.works; are_readings = a.are; file = file; file_is = is; steps = creation_calls file wanted; steps_are = inl (unborn, refl); is = refl };
  fails = fails_behind old mid new a.works (creation_calls file wanted) a.is fails;
}

-- a file that was born was read, and is what it is or has a fault that isn't the disk's
pub read_born : {T : Type 0} (old new : Option DiskHistory) (seen : Option (List ℕ)) (wanted : Owner) (file : List ℕ) (r : Result T OpenFault) → AllMade old new AreReadings → IfSome seen (λ f. file ≡ f) → IsBorn file
    → IfErr r (λ fault. fault ≡ DiskFault → ⊥) → MakesOrFaults old new (ReadsAndCreates seen wanted) AreReadings r
read_born old new seen wanted file (Ok x) a is born other = record {
  works = a.works;
  are = record { readings = a.works; are_readings = a.are; file = file; file_is = is; steps = []; steps_are = inr (born, refl); is = sym (append-nil a.works) };
  is = a.is;
}
read_born old new seen wanted file (Err DiskFault) a is born other = absurd (other refl)
read_born old new seen wanted file (Err (BadJournal offset)) a is born other = a
read_born old new seen wanted file (Err (WrongOwner found wanted_is)) a is born other = a
read_born old new seen wanted file (Err OutOfMemory) a is born other = a

-- ---- behind a sync

pub sync_failed : (old new : Option DiskHistory) (seen : Option (List ℕ)) (wanted : Owner) → new ≡ after_call_of old Sync true → OneFailed old new (BehindSync (ReadsAndCreates seen wanted))
sync_failed old new seen wanted is =
    let f = file_of seen in
    let s = steps_of f.0 wanted in
    record {
      works = Sync ∷ s.0;
      are = record { others = s.0; are = record { readings = []; are_readings = tt; file = f.0; file_is = f.1; steps = s.0; steps_are = s.1; is = refl }; is = refl };
      fails = record { made = []; failed = Sync; left = s.0; are = refl; is = is };
    }

behind_all : (old mid new : Option DiskHistory) (kind : List DiskWork → Type 0) → mid ≡ after_call_of old Sync false → AllMade mid new kind → AllMade old new (BehindSync kind)
behind_all old mid new kind synced a = record {
  works = Sync ∷ a.works;
  are = record { others = a.works; are = a.are; is = refl };
  is = a.is ∙ ap (λ (h : Option DiskHistory). after_calls h a.works) synced;
}

behind_some : (old mid new : Option DiskHistory) (kind : List DiskWork → Type 0) → mid ≡ after_call_of old Sync false → OneFailed mid new kind → OneFailed old new (BehindSync kind)
behind_some old mid new kind synced a = record {
  works = Sync ∷ a.works;
  are = record { others = a.works; are = a.are; is = refl };
  fails = fails_behind old mid new (Sync ∷ []) a.works synced a.fails;
}

pub behind_sync : {T : Type 0} (old mid new : Option DiskHistory) (kind read : List DiskWork → Type 0) (r : Result T OpenFault) → mid ≡ after_call_of old Sync false → MakesOrFaults mid new kind read r
    → MakesOrFaults old new (BehindSync kind) (BehindSync read) r
behind_sync old mid new kind read (Ok x) synced m = behind_all old mid new kind synced m
behind_sync old mid new kind read (Err DiskFault) synced m = behind_some old mid new kind synced m
behind_sync old mid new kind read (Err (BadJournal offset)) synced m = behind_all old mid new read synced m
behind_sync old mid new kind read (Err (WrongOwner found wanted)) synced m = behind_all old mid new read synced m
behind_sync old mid new kind read (Err OutOfMemory) synced m = behind_all old mid new read synced m
