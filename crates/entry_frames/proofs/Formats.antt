-- What is read of a format is spelled so, and what is spelled so is read: for every format at once.
use Rattle.std.proofs.Common.{◌≡◌, ℕ, ◌+◌, ◌-◌, Bool, true, false, List, ◌++◌, length, drop, Result, Ok, Err, refl, sym, ap, subst, ◌∙◌, append_assoc, arith}
use Rattle.std.specs.Prelude.{IfOk}
use Rattle.std.proofs.lemmas.List.{length-append, drop_at}
use Rattle.entry_frames.specs.declared.fault.FrameFault.{FrameFault}
use Rattle.entry_frames.specs.declared.fault.FrameFault.TheVariants.{Bad}
use Rattle.entry_frames.specs.Formats.{AreBytes, Unsigned, Format, Value, Number, Bytes, Test, Cursor, Taken, ◌>>=◌, number_bytes, counts_as, FitsNumber, spelling, Fits, embed, number_at, bytes_at, test_at, reading, front_of}
use Rattle.entry_frames.specs.Steps.{ReadsTo}
use Rattle.entry_frames.proofs.Numbers.{Takes, bind_ok, passed, ok, ok_is, number_taken, bytes_taken, number_again, bytes_again}

-- What was taken twice, one behind the other.
pub takes_both : (x y : List ℕ) (a b c : Cursor) → Takes x a b → Takes y b c → Takes (x ++ y) a c
takes_both x y a b c p q = record {
  split = p.split ∙ ap (λ (t : List ℕ). x ++ t) q.split ∙ sym (append_assoc x y c.rest);
  moved = omega (arith, p.moved, q.moved, length-append x y);
  left = q.left;
}

-- Each field that a reading meets is that part of the value in which it ends, and so is what was owed before.
abbrev pub Faithful : {V : Type 0} → Format V → (V → Type 0) → Type 0
Faithful (Value value) owed = owed value
Faithful (Number stands unsigned in_range part next) owed =
    (n : ℕ) → FitsNumber stands unsigned in_range n → counts_as stands n ≡ n → Faithful (next n) (λ v. owed v × (part v ≡ n))
Faithful (Bytes count part next) owed = (bytes : List ℕ) → length bytes ≡ count → Faithful (next bytes) (λ v. owed v × (part v ≡ bytes))
Faithful (Test passes back next) owed = passes ≡ true → Faithful next owed

-- what a reading says of the value that it gives: it is the one spelling of it that was taken
pub record ReadAs {V : Type 0} (format : Format V) (before : Cursor) (taken : Taken V) : Type 0 where
  pub fits : Fits format taken.value
  pub takes : Takes (spelling format taken.value) before taken.cursor

number_step : {V : Type 0} (stands : Bool) (unsigned : Unsigned) (in_range : ℕ → Bool) (part : V → ℕ) (next : ℕ → Format V) (before middle : Cursor) (taken : Taken V) (n : ℕ)
    → FitsNumber stands unsigned in_range n → counts_as stands n ≡ n → Takes (number_bytes stands unsigned n) before middle → part taken.value ≡ n
    → ReadAs (next n) middle taken → ReadAs (Number stands unsigned in_range part next) before taken
number_step stands unsigned in_range part next before middle taken n fits counts takes is rest =
    let v = taken.value in
    let e : n ≡ counts_as stands (part v) = sym counts ∙ ap (counts_as stands) (sym is) in
    record {
      fits = (subst (FitsNumber stands unsigned in_range) (sym is) fits, subst (λ m. Fits (next m) v) e rest.fits);
      takes = takes_both (number_bytes stands unsigned (part v)) (spelling (next (counts_as stands (part v))) v) before middle taken.cursor
          (subst (λ m. Takes (number_bytes stands unsigned m) before middle) (sym is) takes) (subst (λ m. Takes (spelling (next m) v) middle taken.cursor) e rest.takes);
    }

bytes_step : {V : Type 0} (count : ℕ) (part : V → List ℕ) (next : List ℕ → Format V) (before middle : Cursor) (taken : Taken V) (bytes : List ℕ)
    → length bytes ≡ count → Takes bytes before middle → part taken.value ≡ bytes → ReadAs (next bytes) middle taken → ReadAs (Bytes count part next) before taken
bytes_step count part next before middle taken bytes len takes is rest =
    let v = taken.value in
    record {
      fits = (ap length is ∙ len, subst (λ b. Fits (next b) v) (sym is) rest.fits);
      takes = takes_both (part v) (spelling (next (part v)) v) before middle taken.cursor
          (subst (λ b. Takes b before middle) (sym is) takes) (subst (λ b. Takes (spelling (next b) v) middle taken.cursor) (sym is) rest.takes);
    }

pub reads_spelling : {V : Type 0} (format : Format V) (owed : V → Type 0) (cursor : Cursor) (taken : Taken V) → AreBytes cursor.rest → Faithful format owed
    → reading format cursor ≡ Ok taken → owed taken.value × ReadAs format cursor taken
reads_spelling (Value value) owed cursor taken are faithful e =
    subst (λ t. owed t.value × ReadAs (Value value) cursor t) (ok_is (record { value = value; cursor = cursor }) taken e)
    (faithful, record { fits = refl; takes = record { split = refl; moved = omega arith; left = are } })
reads_spelling (Number stands unsigned in_range part next) owed cursor taken are faithful e =
    let b = bind_ok (number_at stands unsigned in_range cursor) (λ n. reading (next n.value) n.cursor) taken e in
    let n = number_taken stands unsigned in_range cursor b.0 are b.1 in
    let rest = reads_spelling (next b.0.value) (λ v. owed v × (part v ≡ b.0.value)) b.0.cursor taken n.2.left (faithful b.0.value n.0 n.1) b.2 in
    (rest.0.0, number_step stands unsigned in_range part next cursor b.0.cursor taken b.0.value n.0 n.1 n.2 rest.0.1 rest.1)
reads_spelling (Bytes count part next) owed cursor taken are faithful e =
    let b = bind_ok (bytes_at count cursor) (λ bytes. reading (next bytes.value) bytes.cursor) taken e in
    let n = bytes_taken count cursor b.0 are b.1 in
    let rest = reads_spelling (next b.0.value) (λ v. owed v × (part v ≡ b.0.value)) b.0.cursor taken n.1.left (faithful b.0.value n.0) b.2 in
    (rest.0.0, bytes_step count part next cursor b.0.cursor taken b.0.value n.0 n.1 rest.0.1 rest.1)
reads_spelling (Test passes back next) owed cursor taken are faithful e =
    let b = bind_ok (test_at passes back cursor) (λ p. reading next p) taken e in
    let t = passed passes (Bad (cursor.at - back)) cursor b.0 b.1 in
    let rest = reads_spelling next owed cursor taken are (faithful t.0) (ap (reading next) t.1 ∙ b.2) in
    (rest.0, record { fits = (t.0, rest.1.fits); takes = rest.1.takes })

-- A value that fits is read from its spelling, whatever follows it.
pub reads_again : {V : Type 0} (format : Format V) (v : V) (at : ℕ) (rest : List ℕ) → Fits format v
    → reading format (record { at = at; rest = spelling format v ++ rest })
    ≡ ok (record { value = v; cursor = record { at = at + length (spelling format v); rest = rest } })
reads_again (Value value) v at rest fits = cc (fits, at_again at)
  where
    at_again : (n : ℕ) → n + 0 ≡ n
    at_again n = omega arith
reads_again (Number stands unsigned in_range part next) v at rest fits =
    let text = number_bytes stands unsigned (part v) in
    let more = spelling (next (counts_as stands (part v))) v in
    ap (λ (t : List ℕ). number_at stands unsigned in_range (record { at = at; rest = t }) >>= λ n. reading (next n.value) n.cursor) (append_assoc text more rest)
    ∙ ap (λ (r : Result (Taken ℕ) FrameFault). r >>= λ n. reading (next n.value) n.cursor) (number_again stands unsigned in_range (part v) at (more ++ rest) fits.0)
    ∙ reads_again (next (counts_as stands (part v))) v (at + length text) rest fits.1
    ∙ ap (λ (x : ℕ). ok (record { value = v; cursor = record { at = x; rest = rest } })) (omega (arith, length-append text more))
reads_again (Bytes count part next) v at rest fits =
    let text = part v in
    let more = spelling (next text) v in
    ap (λ (t : List ℕ). bytes_at count (record { at = at; rest = t }) >>= λ bytes. reading (next bytes.value) bytes.cursor) (append_assoc text more rest)
    ∙ ap (λ (n : ℕ). bytes_at n (record { at = at; rest = text ++ (more ++ rest) }) >>= λ bytes. reading (next bytes.value) bytes.cursor) (sym fits.0)
    ∙ ap (λ (r : Result (Taken (List ℕ)) FrameFault). r >>= λ bytes. reading (next bytes.value) bytes.cursor) (bytes_again text at (more ++ rest))
    ∙ reads_again (next text) v (at + length text) rest fits.1
    ∙ ap (λ (x : ℕ). ok (record { value = v; cursor = record { at = x; rest = rest } })) (omega (arith, length-append text more))
reads_again (Test passes back next) v at rest fits = rw fits.0 (reads_again next v at rest fits.1)

-- the same at the front of some bytes
pub front_reads_again : {V : Type 0} (format : Format V) (v : V) (bytes rest : List ℕ) → Fits format v → bytes ≡ spelling format v ++ rest
    → reading format (front_of bytes) ≡ ok (record { value = v; cursor = record { at = length (spelling format v); rest = rest } })
front_reads_again format v bytes rest fits is =
    ap (λ (b : List ℕ). reading format (front_of b)) is ∙ reads_again format v 0 rest fits
    ∙ ap (λ (x : ℕ). ok (record { value = v; cursor = record { at = x; rest = rest } })) (omega arith)

-- one step, and then two that are one
bind_then : {A B C : Type 0} (m : Result A FrameFault) (f : A → Result B FrameFault) (g : B → Result C FrameFault) (h : A → Result C FrameFault)
    → ((x : A) → h x ≡ (f x >>= g)) → (m >>= h) ≡ ((m >>= f) >>= g)
bind_then (Ok x) f g h same = same x
bind_then (Err e) f g h same = refl

-- reading a format with another one in it: first the one, then what depends on its value
pub embed_reading : {A V : Type 0} (format : Format A) (part : V → A) (next : A → Format V) (cursor : Cursor)
    → reading (embed format part next) cursor ≡ (reading format cursor >>= λ a. reading (next a.value) a.cursor)
embed_reading (Value value) part next cursor = refl
embed_reading (Number stands unsigned in_range inner rest) part next cursor =
    bind_then (number_at stands unsigned in_range cursor) (λ n. reading (rest n.value) n.cursor) (λ a. reading (next a.value) a.cursor)
    (λ n. reading (embed (rest n.value) part next) n.cursor) (λ n. embed_reading (rest n.value) part next n.cursor)
embed_reading (Bytes count inner rest) part next cursor =
    bind_then (bytes_at count cursor) (λ n. reading (rest n.value) n.cursor) (λ a. reading (next a.value) a.cursor)
    (λ n. reading (embed (rest n.value) part next) n.cursor) (λ n. embed_reading (rest n.value) part next n.cursor)
embed_reading (Test passes back rest) part next cursor =
    bind_then (test_at passes back cursor) (λ p. reading rest p) (λ a. reading (next a.value) a.cursor)
    (λ p. reading (embed rest part next) p) (λ p. embed_reading rest part next p)

-- its spelling likewise
pub embed_spelling : {A V : Type 0} (format : Format A) (part : V → A) (next : A → Format V) (v : V) → Fits format (part v)
    → spelling (embed format part next) v ≡ spelling format (part v) ++ spelling (next (part v)) v
embed_spelling (Value value) part next v fits = ap (λ a. spelling (next a) v) fits
embed_spelling (Number stands unsigned in_range inner rest) part next v fits =
    let text = number_bytes stands unsigned (inner (part v)) in
    let n = counts_as stands (inner (part v)) in
    ap (λ (t : List ℕ). text ++ t) (embed_spelling (rest n) part next v fits.1) ∙ sym (append_assoc text (spelling (rest n) (part v)) (spelling (next (part v)) v))
embed_spelling (Bytes count inner rest) part next v fits =
    let text = inner (part v) in
    ap (λ (t : List ℕ). text ++ t) (embed_spelling (rest text) part next v fits.1) ∙ sym (append_assoc text (spelling (rest text) (part v)) (spelling (next (part v)) v))
embed_spelling (Test passes back rest) part next v fits = embed_spelling rest part next v fits.1

pub embed_fits : {A V : Type 0} (format : Format A) (part : V → A) (next : A → Format V) (v : V) → Fits format (part v) → Fits (next (part v)) v
    → Fits (embed format part next) v
embed_fits (Value value) part next v inner outer = subst (λ a. Fits (next a) v) (sym inner) outer
embed_fits (Number stands unsigned in_range inner rest) part next v fits outer = (fits.0, embed_fits (rest (counts_as stands (inner (part v)))) part next v fits.1 outer)
embed_fits (Bytes count inner rest) part next v fits outer = (fits.0, embed_fits (rest (inner (part v))) part next v fits.1 outer)
embed_fits (Test passes back rest) part next v fits outer = (fits.0, embed_fits rest part next v fits.1 outer)

counts_where_fits : (stands : Bool) (unsigned : Unsigned) (in_range : ℕ → Bool) (n : ℕ) → FitsNumber stands unsigned in_range n → counts_as stands n ≡ n
counts_where_fits false unsigned in_range n fits = sym fits
counts_where_fits true unsigned in_range n fits = refl

-- what is owed of what is read is so of each value that fits
pub owed_where_fits : {V : Type 0} (format : Format V) (owed : V → Type 0) (v : V) → Faithful format owed → Fits format v → owed v
owed_where_fits (Value value) owed v faithful fits = subst owed fits faithful
owed_where_fits (Number stands unsigned in_range part next) owed v faithful fits =
    let counts = counts_where_fits stands unsigned in_range (part v) fits.0 in
    (owed_where_fits (next (part v)) (λ w. owed w × (part w ≡ part v)) v (faithful (part v) fits.0 counts) (subst (λ n. Fits (next n) v) counts fits.1)).0
owed_where_fits (Bytes count part next) owed v faithful fits =
    (owed_where_fits (next (part v)) (λ w. owed w × (part w ≡ part v)) v (faithful (part v) fits.0) fits.1).0
owed_where_fits (Test passes back next) owed v faithful fits = owed_where_fits next owed v (faithful fits.0) fits.1

-- where a value fits, its part does, and what depends on it
pub embedded_fits : {A V : Type 0} (format : Format A) (part : V → A) (next : A → Format V) (v : V) → ((a : A) → Faithful (next a) (λ w. part w ≡ a))
    → Fits (embed format part next) v → Fits format (part v) × Fits (next (part v)) v
embedded_fits (Value value) part next v follows fits =
    let is : part v ≡ value = owed_where_fits (next value) (λ w. part w ≡ value) v (follows value) fits in
    (sym is, subst (λ a. Fits (next a) v) (sym is) fits)
embedded_fits (Number stands unsigned in_range inner rest) part next v follows fits =
    let both = embedded_fits (rest (counts_as stands (inner (part v)))) part next v follows fits.1 in
    ((fits.0, both.0), both.1)
embedded_fits (Bytes count inner rest) part next v follows fits =
    let both = embedded_fits (rest (inner (part v))) part next v follows fits.1 in
    ((fits.0, both.0), both.1)
embedded_fits (Test passes back rest) part next v follows fits =
    let both = embedded_fits rest part next v follows fits.1 in
    ((fits.0, both.0), both.1)

-- less is owed
pub owes_less : {V : Type 0} (format : Format V) (owed fewer : V → Type 0) → ((v : V) → owed v → fewer v) → Faithful format owed → Faithful format fewer
owes_less (Value value) owed fewer weaker faithful = weaker value faithful
owes_less (Number stands unsigned in_range part next) owed fewer weaker faithful = λ n fits counts.
    owes_less (next n) (λ v. owed v × (part v ≡ n)) (λ v. fewer v × (part v ≡ n)) (λ v o. (weaker v o.0, o.1)) (faithful n fits counts)
owes_less (Bytes count part next) owed fewer weaker faithful = λ bytes len.
    owes_less (next bytes) (λ v. owed v × (part v ≡ bytes)) (λ v. fewer v × (part v ≡ bytes)) (λ v o. (weaker v o.0, o.1)) (faithful bytes len)
owes_less (Test passes back next) owed fewer weaker faithful = λ holds. owes_less next owed fewer weaker (faithful holds)

-- A format with a faithful one in it is faithful where what follows is, and gives that part back.
pub embed_faithful : {A V : Type 0} (format : Format A) (owed : A → Type 0) (part : V → A) (next : A → Format V) (more : V → Type 0) → Faithful format owed
    → ((a : A) → owed a → Faithful (next a) (λ v. more v × (part v ≡ a))) → Faithful (embed format part next) more
embed_faithful (Value value) owed part next more faithful follows =
    owes_less (next value) (λ v. more v × (part v ≡ value)) more (λ v o. o.0) (follows value faithful)
embed_faithful (Number stands unsigned in_range inner rest) owed part next more faithful follows = λ n fits counts.
    embed_faithful (rest n) (λ a. owed a × (inner a ≡ n)) part next (λ v. more v × (inner (part v) ≡ n)) (faithful n fits counts)
    (λ a o. owes_less (next a) (λ v. more v × (part v ≡ a)) (λ v. (more v × (inner (part v) ≡ n)) × (part v ≡ a))
    (λ v m. ((m.0, ap inner m.1 ∙ o.1), m.1)) (follows a o.0))
embed_faithful (Bytes count inner rest) owed part next more faithful follows = λ bytes len.
    embed_faithful (rest bytes) (λ a. owed a × (inner a ≡ bytes)) part next (λ v. more v × (inner (part v) ≡ bytes)) (faithful bytes len)
    (λ a o. owes_less (next a) (λ v. more v × (part v ≡ a)) (λ v. (more v × (inner (part v) ≡ bytes)) × (part v ≡ a))
    (λ v m. ((m.0, ap inner m.1 ∙ o.1), m.1)) (follows a o.0))
embed_faithful (Test passes back rest) owed part next more faithful follows = λ holds. embed_faithful rest owed part next more (faithful holds) follows

abbrev at_offset : ℕ → List ℕ → Cursor
at_offset at rest = record { at = at; rest = rest }

abbrev pub taken_at : {V : Type 0} → V → Cursor → Result (Taken V) FrameFault
taken_at v cursor = Ok (record { value = v; cursor = cursor })

-- the cursor behind what was taken from the front is told by its offset
pub place_behind : (bytes text : List ℕ) (cursor : Cursor) → Takes text (front_of bytes) cursor → cursor ≡ record { at = cursor.at; rest = drop cursor.at bytes }
place_behind bytes text cursor taken =
    let dropped : drop cursor.at bytes ≡ cursor.rest = rw taken.split (drop_at text cursor.rest cursor.at (omega (arith, taken.moved))) in
    ap (at_offset cursor.at) (sym dropped)

-- what is read at the front of some bytes is spelled there
pub spelled_at_front : {X V : Type 0} (format : Format V) (bytes : List ℕ) (view : X → V) (count : X → ℕ) (result : Result X FrameFault) → Faithful format (λ v. Unit {0}) → AreBytes bytes
    → ReadsTo view (λ x. record { at = count x; rest = drop (count x) bytes }) result (reading format (front_of bytes))
    → IfOk result (λ x. Fits format (view x) × (bytes ≡ spelling format (view x) ++ drop (count x) bytes))
spelled_at_front format bytes view count (Ok x) faithful are e =
    let read = (reads_spelling format (λ v. Unit {0}) (front_of bytes) (record { value = view x; cursor = record { at = count x; rest = drop (count x) bytes } }) are faithful e).1 in
    (read.fits, read.takes.split)
spelled_at_front format bytes view count (Err fault) faithful are e = tt

-- and it is as long as it is told to be
pub length_at_front : {X V : Type 0} (format : Format V) (bytes : List ℕ) (view : X → V) (count : X → ℕ) (result : Result X FrameFault) → Faithful format (λ v. Unit {0}) → AreBytes bytes
    → ReadsTo view (λ x. record { at = count x; rest = drop (count x) bytes }) result (reading format (front_of bytes))
    → IfOk result (λ x. count x ≡ length (spelling format (view x)))
length_at_front format bytes view count (Ok x) faithful are e =
    omega (arith, (reads_spelling format (λ v. Unit {0}) (front_of bytes) (record { value = view x; cursor = record { at = count x; rest = drop (count x) bytes } }) are faithful e).1.takes.moved)
length_at_front format bytes view count (Err fault) faithful are e = tt

-- where a reader that went on from the front stands is told by its offset
pub read_to : {V : Type 0} (format : Format V) (bytes : List ℕ) (v : V) (cursor : Cursor) → Faithful format (λ w. Unit {0}) → AreBytes bytes
    → reading format (front_of bytes) ≡ taken_at v cursor → reading format (front_of bytes) ≡ taken_at v (record { at = cursor.at; rest = drop cursor.at bytes })
read_to format bytes v cursor faithful are e =
    let read = (reads_spelling format (λ w. Unit {0}) (front_of bytes) (record { value = v; cursor = cursor }) are faithful e).1 in
    e ∙ ap (taken_at v) (place_behind bytes (spelling format v) cursor read.takes)
