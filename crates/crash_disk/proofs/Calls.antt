-- How the history and what follows from it go on by one call, and by a stop.
use Rattle.std.proofs.Common.{◌≡◌, ◌≢◌, ℕ, ◌+◌, ◌-◌, ◌^◌, ◌<◌, ◌≤◌, min, List, [], ◌∷◌, ◌++◌, length, refl, sym, ap, ◌∙◌, arith, subst}
use Rattle.std.proofs.lemmas.Bool.Decides.{nat_tests}
use Rattle.std.specs.Prelude.{Bool, false, Option, Some, None, option_map, is_some, leb, ◌==◌, ◌||◌, if◌then◌else◌}
use Rattle.std.specs.List.{list_any}
use Rattle.craft_edge.specs.Calls.{CallBook, counted, next_fails}
use Rattle.craft_edge.specs.DiskCalls.{DiskHistory, DiskCall, DiskWork, StopOrder, with_call, with_stop}
use Rattle.craft_edge.specs.DiskModel.{DiskState}
use Rattle.crash_disk.specs.Told.{at_rest, carried_out}
use Rattle.crash_disk.specs.Replay.{is_listed, is_stopped, is_torn, is_to_fail, takes_effect, after_one, after_calls, FailAsTold, FollowsHistory}
use Rattle.crash_disk.specs.Kept.{is_over, is_last, one_less, calls_left}

-- what is left until the stop, against the number of the next call
leb-left : (a n : ℕ) → leb (a - n) 1 ≡ leb a (n + 1)
leb-left a n = grind (arith, nat_tests)

eqb-left : (a n : ℕ) → (a - n == 1) ≡ (n + 1 == a)
eqb-left a n = grind (arith, nat_tests)

over_at : (stop : Option StopOrder) (n : ℕ) → is_over (option_map (λ (s : StopOrder). s.made_before + s.call - n) stop) ≡ is_stopped stop (n + 1)
over_at None n = refl
over_at (Some stop) n = leb-left (stop.made_before + stop.call) n

last_at : (stop : Option StopOrder) (n : ℕ) → is_last (option_map (λ (s : StopOrder). s.made_before + s.call - n) stop) ≡ is_torn stop (n + 1)
last_at None n = refl
last_at (Some stop) n = eqb-left (stop.made_before + stop.call) n

less_at : (stop : Option StopOrder) (n m : ℕ) → m ≡ n + 1 → one_less (option_map (λ (s : StopOrder). s.made_before + s.call - n) stop) ≡ option_map (λ (s : StopOrder). s.made_before + s.call - m) stop
less_at None n m e = refl
less_at (Some stop) n m e = ap Some (omega (arith, e))

pub is_over-calls_left : (history : DiskHistory) → is_over (calls_left history) ≡ is_stopped history.last_stop (length history.calls + 1)
is_over-calls_left history = over_at history.last_stop (length history.calls)

pub is_last-calls_left : (history : DiskHistory) → is_last (calls_left history) ≡ is_torn history.last_stop (length history.calls + 1)
is_last-calls_left history = last_at history.last_stop (length history.calls)

length-push : {A : Type 0} (xs : List A) (x : A) → length (xs ++ x ∷ []) ≡ length xs + 1
length-push [] x = refl
length-push (y ∷ xs) x = omega (arith, length-push xs x)

pub one_less-calls_left : (history : DiskHistory) (work : DiskWork) (failed : Bool) → one_less (calls_left history) ≡ calls_left (with_call history work failed)
one_less-calls_left history work failed =
    less_at history.last_stop (length history.calls) (length (history.calls ++ record { work = work; failed = failed } ∷ [])) (length-push history.calls (record { work = work; failed = failed }))

-- the number of the next call
pub next_is_listed : (book : CallBook) (fail : List ℕ) (n : ℕ) → book.fail ≡ fail → book.made ≡ min n (2 ^ 64 - 1) → next_fails book ≡ is_listed fail (n + 1)
next_is_listed book fail n same count =
    let number : counted book.made ≡ min (n + 1) (2 ^ 64 - 1) = omega (arith, count) in
    ap (λ (k : ℕ). list_any (λ (m : ℕ). m == k) book.fail) number ∙ ap (λ (xs : List ℕ). list_any (λ (m : ℕ). m == min (n + 1) (2 ^ 64 - 1)) xs) same

pub count_goes_on : {A : Type 0} (calls : List A) (call : A) (made : ℕ) → made ≡ min (length calls) (2 ^ 64 - 1) → counted made ≡ min (length (calls ++ call ∷ [])) (2 ^ 64 - 1)
count_goes_on calls call made e = omega (arith, e, length-push calls call)

after_calls-push : (stop : Option StopOrder) (number next : ℕ) (disk : DiskState) (calls : List DiskCall) (call : DiskCall) → next ≡ number + length calls
    → after_calls stop number disk (calls ++ call ∷ []) ≡ after_one stop next (after_calls stop number disk calls) call
after_calls-push stop number next disk [] call e = ap (λ (k : ℕ). after_one stop k disk call) (omega (arith, e))
after_calls-push stop number next disk (first ∷ calls) call e = after_calls-push stop (number + 1) next (after_one stop number disk first) calls call (omega (arith, e))

FailAsTold-push : (fail : List ℕ) (stop : Option StopOrder) (number next : ℕ) (calls : List DiskCall) (call : DiskCall) → next ≡ number + length calls
    → FailAsTold fail stop number calls → call.failed ≡ is_to_fail fail stop next → FailAsTold fail stop number (calls ++ call ∷ [])
FailAsTold-push fail stop number next [] call e so_far last = (last ∙ ap (λ (k : ℕ). is_to_fail fail stop k) (omega (arith, e)), tt)
FailAsTold-push fail stop number next (first ∷ calls) call e so_far last = (so_far.0, FailAsTold-push fail stop (number + 1) next calls call (omega (arith, e)) so_far.1 last)

-- one call more, as it was told
pub follows_call : (history : DiskHistory) (now : DiskState) (work : DiskWork) (failed effect : Bool) → FollowsHistory history now
    → failed ≡ is_to_fail history.made_with.fail history.last_stop (length history.calls + 1)
    → effect ≡ takes_effect work failed (is_torn history.last_stop (length history.calls + 1))
    → FollowsHistory (with_call history work failed) (if effect then carried_out now work else now)
follows_call history now work failed effect so_far told is = record {
  failed = FailAsTold-push history.made_with.fail history.last_stop 1 (length history.calls + 1) history.calls (record { work = work; failed = failed }) (omega arith) so_far.failed told;
  held = ap (λ (b : Bool). if b then carried_out now work else now) is
      ∙ ap (λ (s : DiskState). after_one history.last_stop (length history.calls + 1) s (record { work = work; failed = failed })) so_far.held
      ∙ sym (after_calls-push history.last_stop 1 (length history.calls + 1) (at_rest history.made_with.bytes) history.calls (record { work = work; failed = failed }) (omega arith));
}

not_torn : (stop : StopOrder) (number : ℕ) → number < stop.made_before + stop.call → is_torn (Some stop) number ≡ false
not_torn stop number lt = grind (arith, nat_tests)

not_stopped : (stop : StopOrder) (number : ℕ) → number < stop.made_before + stop.call → is_stopped (Some stop) number ≡ false
not_stopped stop number lt = grind (arith, nat_tests)

-- calls before a stop are as without it
after_calls_before : (stop : StopOrder) (number : ℕ) (disk : DiskState) (calls : List DiskCall) → number + length calls ≤ stop.made_before + stop.call
    → after_calls None number disk calls ≡ after_calls (Some stop) number disk calls
after_calls_before stop number disk [] le = refl
after_calls_before stop number disk (call ∷ calls) le =
    after_calls_before stop (number + 1) (after_one None number disk call) calls (omega (arith, le))
    ∙ ap (λ (b : Bool). after_calls (Some stop) (number + 1) (if takes_effect call.work call.failed b then carried_out disk call.work else disk) calls) (sym (not_torn stop number (omega (arith, le))))

FailAsTold_before : (fail : List ℕ) (stop : StopOrder) (number : ℕ) (calls : List DiskCall) → number + length calls ≤ stop.made_before + stop.call
    → FailAsTold fail None number calls → FailAsTold fail (Some stop) number calls
FailAsTold_before fail stop number [] le so_far = tt
FailAsTold_before fail stop number (call ∷ calls) le so_far = (
  so_far.0 ∙ ap (λ (b : Bool). is_listed fail number || b) (sym (not_stopped stop number (omega (arith, le)))),
  FailAsTold_before fail stop (number + 1) calls (omega (arith, le)) so_far.1,
)

first_stop : (history : DiskHistory) (now : DiskState) (stop : Option StopOrder) (call : ℕ) (keep : Bool) → history.last_stop ≡ stop → is_some stop ≡ false → call ≢ 0 → FollowsHistory history now
    → FollowsHistory (with_stop history call keep) now
first_stop history now None call keep e none some so_far =
    let order : StopOrder = record { call = call; keep = keep; made_before = length history.calls } in
    let before : 1 + length history.calls ≤ length history.calls + call = omega (arith, some) in record {
      failed = FailAsTold_before history.made_with.fail order 1 history.calls before (subst (λ (s : Option StopOrder). FailAsTold history.made_with.fail s 1 history.calls) e so_far.failed);
      held = so_far.held ∙ ap (λ (s : Option StopOrder). after_calls s 1 (at_rest history.made_with.bytes) history.calls) e ∙ after_calls_before order 1 (at_rest history.made_with.bytes) history.calls before;
    }
first_stop history now (Some stop) call keep e none some so_far = absurd (cc)

-- the first stop
pub follows_stop : (history : DiskHistory) (now : DiskState) (call : ℕ) (keep : Bool) → is_some history.last_stop ≡ false → call ≢ 0 → FollowsHistory history now → FollowsHistory (with_stop history call keep) now
follows_stop history now call keep none some so_far = first_stop history now history.last_stop call keep refl none some so_far
