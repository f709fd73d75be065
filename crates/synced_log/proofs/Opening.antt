-- A file that was read to its end is a journal, or it has that fault.
use Rattle.std.proofs.Common.{◌≡◌, inl, inr, ℕ, ◌+◌, ◌≤◌, Bool, true, false, not, ◌&&◌, eqb, List, [], ◌∷◌, ◌++◌, length, drop, refl, sym, ap, ◌∙◌, subst, arith, append_assoc, length-append, take-append-drop}
use Rattle.std.specs.Prelude.{Option, None, Some, IfSome}
use Rattle.std.proofs.lemmas.Bool.{eqb-true}
use Rattle.craft_edge.specs.Disk.{max_len}
use Rattle.entry_frames.specs.Records.{Record}
use Rattle.synced_log.specs.declared.owner.Owner.{Owner}
use Rattle.synced_log.specs.declared.span.GroupSpan.{GroupSpan}
use Rattle.synced_log.specs.declared.walk.Ended.TheVariants.{Closed, Faulty}
use Rattle.synced_log.specs.Journal.{IsOwner, shape_of, header, open_groups, Placed, front_of, IsUnborn, HasHeader, BadAt, Kept, Reads, closed_gate}
use Rattle.synced_log.specs.Standing.{Opens}
use Rattle.synced_log.specs.Walks.{all_placed, WalksWhole}
use Rattle.synced_log.proofs.Creating as creating

module _ (o : Owner) (file : List ℕ) (spans : List GroupSpan) (has : HasHeader file o) where
  -- the front of a file, and what lies from an offset on
  split : (groups : List (List Record)) (at : ℕ) → drop 32 file ≡ open_groups o.k groups ++ drop at file → file ≡ front_of o groups ++ drop at file
  split groups at is =
      sym (take-append-drop 32 file) ∙ (λ i. has.is i ++ is i) ∙ sym (append_assoc (header o) (open_groups o.k groups) (drop at file))

  gate_at : (groups : List (List Record)) (at : ℕ) → at ≡ 32 + length (open_groups o.k groups) → at ≡ closed_gate o groups
  gate_at groups at is = omega (arith, is, length-append (header o) (open_groups o.k groups))

  pub reads : (gate : ℕ) (kept : Kept) → WalksWhole (shape_of o) file spans (Closed gate) → kept ≡ record { shape = shape_of o; placed = all_placed file spans } → Reads file o gate kept
  reads gate kept w kept_is = record {
    groups = w.walk.groups;
    journal = record {
      journal = record {
        owner = has.owner;
        groups_are = w.walk.groups_are;
        rest = drop gate file;
        is = split w.walk.groups gate w.walk.is;
        ends = w.ends;
      };
      gate_is = gate_at w.walk.groups gate w.walk.at_is;
    };
    kept_is = kept_is ∙ ap (λ (p : List Placed). record { shape = shape_of o; placed = p }) w.walk.spans_are;
  }

  pub faulty : (gate : ℕ) → WalksWhole (shape_of o) file spans (Faulty gate) → BadAt file o gate
  faulty gate w = inr (
    w.walk.groups,
    record { groups_are = w.walk.groups_are; rest = drop gate file; is = split w.walk.groups gate w.walk.is; fault = w.ends },
    gate_at w.walk.groups gate w.walk.at_is,
  )

-- ---- where the disk tells what a read gives

-- a file that was created
abbrev some_of : List ℕ → Option (List ℕ)
some_of l = Some l

short : (bytes : List ℕ) → IsUnborn bytes → length bytes ≤ max_len
short bytes (inl few) = omega (arith, few)
short bytes (inr whole) = omega (arith, whole.0)

pub created_opens : (seen mid new : Option (List ℕ)) (file : List ℕ) (o : Owner) (kept : Kept) → IsOwner o → mid ≡ seen → IfSome seen (λ f. file ≡ f) → IsUnborn file
    → (mid ≡ Some file → new ≡ Some (header o ++ 0 ∷ [])) → kept ≡ record { shape = shape_of o; placed = [] } → Opens seen new o 32 kept
created_opens None mid new file o kept owner same is unborn makes kept_is = tt
created_opens (Some f) mid new file o kept owner same is unborn makes kept_is =
    let there : mid ≡ Some file = same ∙ ap some_of (sym is) in
    subst (λ (n : Option (List ℕ)). Opens (Some f) n o 32 kept) (sym (makes there)) (record {
      groups = [];
      journal = record { journal = creating.born o owner; gate_is = refl };
      kept_is = kept_is;
      room = short f (subst IsUnborn is unborn);
      from = inl (subst IsUnborn is unborn, refl, refl);
    })

-- ---- owners

not_false : (a : Bool) → false ≡ not a → a ≡ true
not_false true e = refl
not_false false e = absurd cc

both : (a b : Bool) → (a && b) ≡ true → (a ≡ true) × (b ≡ true)
both true b e = (refl, e)
both false b e = absurd cc

pub owners_same : (a b : Owner) → false ≡ not (eqb a.f b.f && (eqb a.k b.k && eqb a.me b.me)) → a ≡ b
owners_same a b e =
    let h = both (eqb a.f b.f) (eqb a.k b.k && eqb a.me b.me) (not_false (eqb a.f b.f && (eqb a.k b.k && eqb a.me b.me)) e) in
    let k = both (eqb a.k b.k) (eqb a.me b.me) h.1 in
    λ i. record { f = eqb-true a.f b.f h.0 i; k = eqb-true a.k b.k k.0 i; me = eqb-true a.me b.me k.1 i }
