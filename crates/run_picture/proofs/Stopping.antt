-- How no run was read, after some lines.
use Rattle.std.proofs.Common.{◌≡◌, ◌≤◌, ◌⊎◌, inl, inr, ℕ, ◌+◌, List, Option, subst, sym, arith}
use Rattle.craft_edge.proofs.Rises.{Rose-earlier}
use Rattle.run_picture.specs.Pictures.{Devices, ReadsNoRun, StopsIn, TakesLines}
use Rattle.run_picture.specs.Reading.{ReadsNoLine, TakesNoLine}
use Rattle.run_picture.specs.declared.fault.ReadFault.{ReadFault}
use Rattle.run_picture.specs.declared.fault.ReadFault.TheVariants.{BadSchedule, BadText, ScheduleFault, TextFault, NoMemory}
use Rattle.run_picture.proofs.Taking.{lines_more}

-- behind n lines of the text its next one wasn't taken
pub no_line : (before after : Devices) (mid : Option (List ℕ)) (faults number n : ℕ) → TakesLines n before.text mid → before.text_faults ≤ faults → number ≡ n + 1 → (fault : ReadFault)
    → ReadsNoLine number mid after.text faults after.text_faults fault → ReadsNoRun before after fault
no_line before after mid faults number n taken later is (BadSchedule line) none = absurd none
no_line before after mid faults number n taken later is (BadText line) none = record {
  before = n;
  is_next = omega (arith, none.0, is);
  taken = inl (lines_more n 0 n before.text mid after.text (omega arith) taken none.1);
}
no_line before after mid faults number n taken later is ScheduleFault none = absurd none
no_line before after mid faults number n taken later is TextFault none = Rose-earlier before.text_faults faults after.text_faults later none
no_line before after mid faults number n taken later is NoMemory none = tt

-- the last line that was taken of the schedule, behind as many as there are events
pub stops : (old mid new : Option (List ℕ)) (line events : ℕ) → TakesLines events old mid → line ≡ 1 + events → TakesLines 0 mid new ⊎ TakesLines 1 mid new → StopsIn line old new
stops old mid new line events taken is (inl none) = record { before = events; is_next = is; taken = inl (lines_more events 0 events old mid new (omega arith) taken none) }
stops old mid new line events taken is (inr one) = record { before = events; is_next = is; taken = inr (lines_more events 1 line old mid new (omega (arith, is)) taken one) }

-- the line that was taken of the text, behind n others, is bad, or the event of it wasn't taken
pub bad_line : (before after : Devices) (mid : Option (List ℕ)) (faults number n events : ℕ) → TakesLines number before.text after.text → number ≡ n + 1 → TakesLines events before.schedule mid
    → before.schedule_faults ≤ faults → (fault : ReadFault) → TakesNoLine number (1 + events) mid after.schedule faults after.schedule_faults fault → ReadsNoRun before after fault
bad_line before after mid faults number n events text is taken later (BadSchedule line) none = stops before.schedule mid after.schedule line events taken none.0 none.1
bad_line before after mid faults number n events text is taken later (BadText line) none = record {
  before = n;
  is_next = omega (arith, none, is);
  taken = inr (subst (λ m. TakesLines m before.text after.text) (sym none) text);
}
bad_line before after mid faults number n events text is taken later ScheduleFault none = Rose-earlier before.schedule_faults faults after.schedule_faults later none
bad_line before after mid faults number n events text is taken later TextFault none = absurd none
bad_line before after mid faults number n events text is taken later NoMemory none = tt
