-- Which calls were made.
use Rattle.std.proofs.Common.{◌≡◌, true, false, ◌<◌, List, [], ◌∷◌, ◌++◌, length, Result, Ok, Err, refl, sym, ap, ◌∙◌, subst, arith, append_assoc, length-append}
use Rattle.std.specs.Prelude.{Option, None, Some, is_err, is_some}
use Rattle.craft_edge.specs.DiskCalls.{DiskHistory, DiskWork, after_call_of}
use Rattle.synced_log.specs.declared.fault.OpenFault.{OpenFault}
use Rattle.synced_log.specs.declared.fault.OpenFault.TheVariants.{DiskFault, BadJournal, WrongOwner, OutOfMemory}
use Rattle.synced_log.specs.Calls.{after_calls, FailsIn, Makes, AllMade, OneFailed, MakesOf, MakesUpTo, MakesOrFaults, AreReadings, IsReading}

pub first_fails : {E F : Type 0} (old new : Option DiskHistory) (first : DiskWork) (rest : List DiskWork) (r : Result (Unit {0}) E) (result : Result (Unit {0}) F) → is_err r ≡ true → is_err result ≡ true
    → new ≡ after_call_of old first (is_err r) → Makes old new (first ∷ rest) result
first_fails old new first rest r (Ok x) bad failed is = absurd cc
first_fails old new first rest r (Err e) bad failed is = record { made = []; failed = first; left = rest; are = refl; is = is ∙ ap (after_call_of old first) bad }

pub both_made : {E F : Type 0} (old mid new : Option DiskHistory) (first second : DiskWork) (r : Result (Unit {0}) E) (result : Result (Unit {0}) F) → is_err r ≡ false
    → mid ≡ after_call_of old first (is_err r) → new ≡ after_call_of mid second (is_err result) → Makes old new (first ∷ second ∷ []) result
both_made old mid new first second r (Ok x) good m n = n ∙ ap (λ h. after_call_of h second false) (m ∙ ap (after_call_of old first) good)
both_made old mid new first second r (Err e) good m n = record {
  made = first ∷ [];
  failed = second;
  left = [];
  are = refl;
  is = n ∙ ap (λ h. after_call_of h second true) (m ∙ ap (after_call_of old first) good);
}

-- ---- calls, and then more

pub after_calls-append : (history : Option DiskHistory) (first second : List DiskWork) → after_calls history (first ++ second) ≡ after_calls (after_calls history first) second
after_calls-append history [] second = refl
after_calls-append history (w ∷ first) second = after_calls-append (after_call_of history w false) first second

pub makes_failed : {T E : Type 0} (old new : Option DiskHistory) (works : List DiskWork) (r : Result T E) → is_err r ≡ true → Makes old new works r → FailsIn old new works
makes_failed old new works (Ok x) bad m = absurd cc
makes_failed old new works (Err e) bad m = m

pub makes_done : {T E : Type 0} (old new : Option DiskHistory) (works : List DiskWork) (r : Result T E) → is_err r ≡ false → Makes old new works r → new ≡ after_calls old works
makes_done old new works (Ok x) good m = m
makes_done old new works (Err e) good m = absurd cc

failed_makes : {T E : Type 0} (old new : Option DiskHistory) (works : List DiskWork) (r : Result T E) → is_err r ≡ true → FailsIn old new works → Makes old new works r
failed_makes old new works (Ok x) bad m = absurd cc
failed_makes old new works (Err e) bad m = m

-- one of the first calls failed
abbrev pub fails_before : (old new : Option DiskHistory) (first second : List DiskWork) → FailsIn old new first → FailsIn old new (first ++ second)
fails_before old new first second f = record {
  made = f.made;
  failed = f.failed;
  left = f.left ++ second;
  are = ap (λ (l : List DiskWork). l ++ second) f.are ∙ append_assoc f.made (f.failed ∷ f.left) second;
  is = f.is;
}

-- the first calls were made, and one of the others failed
abbrev pub fails_behind : (old mid new : Option DiskHistory) (first second : List DiskWork) → mid ≡ after_calls old first → FailsIn mid new second → FailsIn old new (first ++ second)
fails_behind old mid new first second done f = record {
  made = first ++ f.made;
  failed = f.failed;
  left = f.left;
  are = ap (λ (l : List DiskWork). first ++ l) f.are ∙ sym (append_assoc first f.made (f.failed ∷ f.left));
  is = f.is ∙ ap (λ (h : Option DiskHistory). after_call_of (after_calls h f.made) f.failed true) done
      ∙ ap (λ (h : Option DiskHistory). after_call_of h f.failed true) (sym (after_calls-append old first f.made));
}

-- fewer calls were made than there are
pub made_within : (old new : Option DiskHistory) (works : List DiskWork) (f : FailsIn old new works) → length f.made < length works
made_within old new works f = omega (arith, ap length f.are, length-append f.made (f.failed ∷ f.left))

-- the first calls failed
pub made_first : {T U E F : Type 0} (old new : Option DiskHistory) (first second : List DiskWork) (r : Result T E) (result : Result U F) → is_err r ≡ true → is_err result ≡ true
    → Makes old new first r → Makes old new (first ++ second) result
made_first old new first second r result bad failed m =
    failed_makes old new (first ++ second) result failed (fails_before old new first second (makes_failed old new first r bad m))

-- the first calls were made, and then the others
pub made_both : {T U E F : Type 0} (old mid new : Option DiskHistory) (first second : List DiskWork) (r : Result T E) (result : Result U F) → is_err r ≡ false
    → Makes old mid first r → Makes mid new second result → Makes old new (first ++ second) result
made_both old mid new first second r (Ok x) good m n =
    n ∙ ap (λ (h : Option DiskHistory). after_calls h second) (makes_done old mid first r good m) ∙ sym (after_calls-append old first second)
made_both old mid new first second r (Err e) good m n = fails_behind old mid new first second (makes_done old mid first r good m) n

-- the same, told by another result that failed where the second did
pub made_as : {T U E F : Type 0} (old new : Option DiskHistory) (works : List DiskWork) (r : Result T E) (result : Result U F) → is_err result ≡ is_err r → Makes old new works r → Makes old new works result
made_as old new works (Ok x) (Ok y) same m = m
made_as old new works (Err x) (Err y) same m = m
made_as old new works (Ok x) (Err y) same m = absurd cc
made_as old new works (Err x) (Ok y) same m = absurd cc

-- ---- readings

pub readings-append : (first second : List DiskWork) → AreReadings first → AreReadings second → AreReadings (first ++ second)
readings-append [] second a b = b
readings-append (w ∷ first) second a b = (a.0, readings-append first second a.1 b)

pub none_made : (history : Option DiskHistory) → AllMade history history AreReadings
none_made history = record { works = []; are = tt; is = refl }

-- one call
pub one_made : {T E : Type 0} (old new : Option DiskHistory) (work : DiskWork) (r : Result T E) → is_err r ≡ false → new ≡ after_call_of old work (is_err r) → IsReading work → AllMade old new AreReadings
one_made old new work r good is reading = record { works = work ∷ []; are = (reading, tt); is = is ∙ ap (after_call_of old work) good }

pub one_fails : {T E : Type 0} (old new : Option DiskHistory) (work : DiskWork) (r : Result T E) → is_err r ≡ true → new ≡ after_call_of old work (is_err r) → IsReading work → OneFailed old new AreReadings
one_fails old new work r bad is reading = record {
  works = work ∷ [];
  are = (reading, tt);
  fails = record { made = []; failed = work; left = []; are = refl; is = is ∙ ap (after_call_of old work) bad };
}

-- readings, and then more
pub both_read : (old mid new : Option DiskHistory) → AllMade old mid AreReadings → AllMade mid new AreReadings → AllMade old new AreReadings
both_read old mid new a b = record {
  works = a.works ++ b.works;
  are = readings-append a.works b.works a.are b.are;
  is = b.is ∙ ap (λ (h : Option DiskHistory). after_calls h b.works) a.is ∙ sym (after_calls-append old a.works b.works);
}

pub then_fails : (old mid new : Option DiskHistory) → AllMade old mid AreReadings → OneFailed mid new AreReadings → OneFailed old new AreReadings
then_fails old mid new a b = record {
  works = a.works ++ b.works;
  are = readings-append a.works b.works a.are b.are;
  fails = fails_behind old mid new a.works b.works a.is b.fails;
}

-- ---- as a result tells it

abbrev err_of : {T : Type 0} → OpenFault → Result T OpenFault
err_of e = Err e

pub made_err : {T E : Type 0} (old new : Option DiskHistory) (kind : List DiskWork → Type 0) (r : Result T E) → is_err r ≡ true → OneFailed old new kind → MakesOf old new kind r
made_err old new kind (Ok x) bad m = absurd cc
made_err old new kind (Err e) bad m = m

pub disk_failed : {T : Type 0} (old new : Option DiskHistory) (kind read : List DiskWork → Type 0) (r : Result T OpenFault) (e : OpenFault) → r ≡ Err e → e ≡ DiskFault → OneFailed old new kind → MakesOrFaults old new kind read r
disk_failed {T} old new kind read r e is fault m = subst (λ (r : Result T OpenFault). MakesOrFaults old new kind read r) (sym (is ∙ ap err_of fault)) m

pub as_error : {T : Type 0} (old new : Option DiskHistory) (kind read : List DiskWork → Type 0) (r : Result T OpenFault) (e : OpenFault) → r ≡ Err e → MakesUpTo e old new kind read → MakesOrFaults old new kind read r
as_error {T} old new kind read r e is m = subst (λ (r : Result T OpenFault). MakesOrFaults old new kind read r) (sym is) m

pub memory_failed : {T : Type 0} (old new : Option DiskHistory) (kind read : List DiskWork → Type 0) (r : Result T OpenFault) (e : OpenFault) → r ≡ Err e → e ≡ OutOfMemory → AllMade old new read → MakesOrFaults old new kind read r
memory_failed {T} old new kind read r e is fault m = subst (λ (r : Result T OpenFault). MakesOrFaults old new kind read r) (sym (is ∙ ap err_of fault)) m

-- ---- what is told

pub told_call : (history : Option DiskHistory) (work : DiskWork) (failed : _) → is_some (after_call_of history work failed) ≡ is_some history
told_call None work failed = refl
told_call (Some h) work failed = refl

pub told_calls : (history : Option DiskHistory) (works : List DiskWork) → is_some (after_calls history works) ≡ is_some history
told_calls history [] = refl
told_calls history (w ∷ works) = told_calls (after_call_of history w false) works ∙ told_call history w false

pub told_failed : (old new : Option DiskHistory) (works : List DiskWork) → FailsIn old new works → is_some new ≡ is_some old
told_failed old new works f = ap is_some f.is ∙ told_call (after_calls old f.made) f.failed true ∙ told_calls old f.made

pub told_made : {T : Type 0} (old new : Option DiskHistory) (kind read : List DiskWork → Type 0) (r : Result T OpenFault) → MakesOrFaults old new kind read r → is_some new ≡ is_some old
told_made old new kind read (Ok x) m = ap is_some m.is ∙ told_calls old m.works
told_made old new kind read (Err DiskFault) m = told_failed old new m.works m.fails
told_made old new kind read (Err (BadJournal offset)) m = ap is_some m.is ∙ told_calls old m.works
told_made old new kind read (Err (WrongOwner found wanted)) m = ap is_some m.is ∙ told_calls old m.works
told_made old new kind read (Err OutOfMemory) m = ap is_some m.is ∙ told_calls old m.works
