-- A walk's tally is what the sentence says of its whole history, and its counts keep their bounds. Assumes nothing.
use Rattle.std.proofs.Common.{◌≡◌, ℕ, zero, suc, ◌+◌, ◌<◌, ◌≤◌, Bool, true, cond, ltb, List, [], ◌∷◌, ◌++◌, map, length, get_or, drop, sym, refl, ap, ◌∙◌, subst, append_assoc, append-nil, arith, length-append, ltb-false, ne_eqb}
use mathlib.Core.Bool.{xor}
use mathlib.Core.List.{map-append}
use lib.ListN.{length-map, get_or-append}
use lib.Seq.{drop-append-le, drop-append_seam, get_or-append_seam}
use Rattle.refusal.proofs.Cases.{by_test}
use Rattle.timing.specs.Report.{repairs_of}
use Rattle.system.specs.declared.System.{System}
use Rattle.system.specs.declared.walk.Walk.{Walk}
use Rattle.system.specs.declared.walk.Fresh.{Fresh}
use Rattle.system.specs.Figures.{line_count, between, is_system, system_of, f_of, next_line, line_before, turns_field}
use Rattle.system.specs.Due.{due_with}
use Rattle.system.specs.Walk.{is_line, fresh_walk, fresh_of, tally_with, advanced_of}
use Rattle.system.specs.Tally.{Passed, sum, repairs_on, f_at, differs_at, latest, field_repairs, passed_from, Reached, begun, then, SentenceSamples, Tallied, ReachedTallied, ReachedStands}
use Rattle.system.proofs.Laws.{between_first, between_last, accepted_named, fresh_named, next_line_in, good_accepted, at_most_two, tally_with_few}
use Rattle.system.proofs.Theorems.{fresh_number}

sum_append : (a b : List ℕ) → sum (a ++ b) ≡ sum a + sum b
unfolding sum
sum_append [] b = omega arith
sum_append (n ∷ ns) b = omega (arith, sum_append ns b)

abbrev number_of : Passed → ℕ
number_of p = p.line

abbrev count_of : Passed → ℕ
count_of p = p.repairs

on_append : (a b : List Passed) → repairs_on (a ++ b) ≡ repairs_on a + repairs_on b
on_append a b = ap sum (map-append count_of a b) ∙ sum_append (map count_of a) (map count_of b)

latest_low : (holds : ℕ → Bool) (n : ℕ) → latest holds n ≤ n
unfolding latest
latest_low holds zero = omega arith
latest_low holds (suc n) = by_test (holds n) (λ t. simp t (omega arith)) (λ f. simp f (omega (arith, latest_low holds n)))

-- ---- a part of a history has no more repairs than the whole
drop_few : (n : ℕ) (h : List Passed) → repairs_on (drop n h) ≤ repairs_on h
unfolding sum
drop_few zero h = omega arith
drop_few (suc n) [] = omega arith
drop_few (suc n) (p ∷ h) = omega (arith, drop_few n h)

counts : (s : System) (line : ℕ) (ks : List ℕ) → map count_of (passed_from s line ks) ≡ ks
unfolding passed_from
counts s line [] = refl
counts s line (k ∷ ks) = ap (λ (l : List ℕ). k ∷ l) (counts s (next_line s line) ks)

pub field_few : (s : System) (line : ℕ) (ks : List ℕ) → field_repairs s (passed_from s line ks) ≤ sum ks
unfolding field_repairs
field_few s line ks =
    let h = passed_from s line ks in
    omega (arith, drop_few (latest (differs_at s h) (length h)) h, ap sum (counts s line ks))

pub sentence_samples : SentenceSamples
unfolding field_repairs latest differs_at sum passed_from next_line f_of xor
sentence_samples = (refl, refl, refl)

-- ---- a history and a line more
module _ (s : System) (h : List Passed) (p : Passed) where
  abbrev more : List Passed
  more = h ++ (p ∷ [])

  numbers : map number_of more ≡ map number_of h ++ (p.line ∷ [])
  numbers = map-append number_of h (p ∷ [])

  as_many : length (map number_of h) ≡ length h
  as_many = length-map h number_of

  f_before : (place : ℕ) → place < length h → f_at s more place ≡ f_at s h place
  f_before place low =
      ap (λ (l : List ℕ). f_of s (get_or l place 0)) numbers
      ∙ ap (f_of s) (get_or-append (map number_of h) (p.line ∷ []) 0 place (omega (arith, as_many)))

  number_last : get_or (map number_of more) (length h) 0 ≡ p.line
  number_last =
      ap (λ (l : List ℕ). get_or l (length h) 0) numbers
      ∙ ap (λ (n : ℕ). get_or (map number_of h ++ (p.line ∷ [])) n 0) (sym as_many)
      ∙ get_or-append_seam (map number_of h) p.line [] 0

  differs_before : (place : ℕ) → place < length h → differs_at s more place ≡ differs_at s h place
  unfolding differs_at
  differs_before zero low = refl
  differs_before (suc place) low = rw (f_before (suc place) low, f_before place (omega arith))

  latest_before : (n : ℕ) → n ≤ length h → latest (differs_at s more) n ≡ latest (differs_at s h) n
  unfolding latest
  latest_before zero low = refl
  latest_before (suc n) low = rw (differs_before n low, latest_before n (omega arith))

  longer : length more ≡ suc (length h)
  longer = length-append h (p ∷ []) ∙ omega arith

  -- the latest is the new line, or the one before
  latest_more : latest (differs_at s more) (length more) ≡ cond (differs_at s more (length h)) (length h) (latest (differs_at s h) (length h))
  unfolding latest
  latest_more =
      ap (latest (differs_at s more)) longer
      ∙ ap (cond (differs_at s more (length h)) (length h)) (latest_before (length h) (omega arith))

  from_new : repairs_on (drop (length h) more) ≡ p.repairs
  unfolding sum
  from_new = ap repairs_on (drop-append_seam h (p ∷ [])) ∙ omega arith

  from_before : (place : ℕ) → place ≤ length h → repairs_on (drop place more) ≡ repairs_on (drop place h) + p.repairs
  unfolding sum
  from_before place low =
      ap repairs_on (drop-append-le place h (p ∷ []) low) ∙ on_append (drop place h) (p ∷ []) ∙ omega arith

  field_more : field_repairs s more ≡ cond (differs_at s more (length h)) 0 (field_repairs s h) + p.repairs
  unfolding field_repairs
  field_more =
      by_test (differs_at s more (length h))
      (λ t.
      let here : latest (differs_at s more) (length more) ≡ length h = latest_more ∙ simp t in
      simp t (ap (λ (n : ℕ). repairs_on (drop n more)) here ∙ from_new ∙ omega arith))
      (λ f.
      let before : latest (differs_at s more) (length more) ≡ latest (differs_at s h) (length h) = latest_more ∙ simp f in
      simp f (ap (λ (n : ℕ). repairs_on (drop n more)) before ∙ from_before (latest (differs_at s h) (length h)) (latest_low (differs_at s h) (length h))))

-- ---- the line that follows a history: the last line's number is the one before it
abbrev Follows : System → List Passed → ℕ → Type 0
Follows s h line = (place : ℕ) → length h ≡ suc place → line_before s line ≡ get_or (map number_of h) place 0

-- of a line of the system F of the two numbers decides
differs_there : (s : System) (line : ℕ) → between 1 (line_count s) line ≡ true → turns_field s line ≡ xor (f_of s line) (f_of s (line_before s line))
unfolding turns_field
differs_there s line in_range = simp in_range

field_turns : (s : System) (h : List Passed) (line repairs : ℕ) → between 1 (line_count s) line ≡ true → Follows s h line
    → field_repairs s (h ++ (record { line = line; repairs = repairs } ∷ [])) ≡ tally_with s line (field_repairs s h) repairs
unfolding field_repairs latest differs_at sum
field_turns s [] line repairs in_range follows =
    by_test (turns_field s line) (λ t. simp t (omega arith)) (λ f. simp f (omega arith))
field_turns s (q ∷ rest) line repairs in_range follows =
    let h = q ∷ rest in
    let p : Passed = record { line = line; repairs = repairs } in
    let turns : differs_at s (h ++ (p ∷ [])) (length h) ≡ turns_field s line =
    rw (ap (f_of s) (number_last s h p), f_before s h p (length rest) (omega arith), ap (f_of s) (sym (follows (length rest) refl)))
    (sym (differs_there s line in_range)) in
    field_more s h p ∙ ap (λ (t : Bool). cond t 0 (field_repairs s h) + repairs) turns

-- the line behind a line of the system has that before it
before_next : (s : System) (line : ℕ) → 1 ≤ line → line ≤ line_count s → line_before s (next_line s line) ≡ line
unfolding next_line
before_next s line low high =
    by_test (ltb line (line_count s))
    (λ t. simp (t, ne_eqb (line + 1) 1 (λ e. omega arith)) (omega arith))
    (λ f. let last = ltb-false line (line_count s) f in simp f (omega arith))

-- the walk's tally behind lines in turn, of which so many codes each were repaired
abbrev pub tally_from : System → ℕ → ℕ → List ℕ → ℕ
tally_from s line tally [] = tally
tally_from s line tally (repairs ∷ rest) = tally_from s (next_line s line) (tally_with s line tally repairs) rest

-- what follows is of the system again
module _ (system : ℕ) where
  abbrev s : System
  s = system_of system

  in_range : (line : ℕ) → is_line system line ≡ true → between 1 (line_count s) line ≡ true
  unfolding is_line
  in_range line a_line = a_line

  follows_next : (h : List Passed) (p : Passed) → is_line system p.line ≡ true → Follows s (h ++ (p ∷ [])) (next_line s p.line)
  unfolding is_line
  follows_next h p a_line place long =
      let is : length h ≡ place = omega (arith, longer s h p) in
      before_next s p.line (between_first 1 (line_count s) p.line a_line) (between_last 1 (line_count s) p.line a_line)
      ∙ sym (number_last s h p) ∙ ap (λ (n : ℕ). get_or (map number_of (h ++ (p ∷ []))) n 0) is

  tally_from_is : (h : List Passed) (ks : List ℕ) (line tally : ℕ) → is_line system line ≡ true → Follows s h line → tally ≡ field_repairs s h
      → tally_from s line tally ks ≡ field_repairs s (h ++ passed_from s line ks)
  unfolding passed_from
  tally_from_is h [] line tally a_line follows is = is ∙ ap (field_repairs s) (sym (append-nil h))
  tally_from_is h (k ∷ ks) line tally a_line follows is =
      let p : Passed = record { line = line; repairs = k } in
      tally_from_is (h ++ (p ∷ [])) ks (next_line s line) (tally_with s line tally k) (next_line_in system line a_line) (follows_next h p a_line)
      (ap (λ (t : ℕ). tally_with s line t k) is ∙ sym (field_turns s h line k (in_range line a_line) follows))
      ∙ ap (field_repairs s) (append_assoc h (p ∷ []) (passed_from s (next_line s line) ks))

  -- at the start nothing is before
  none_before : (line : ℕ) → Follows s [] line
  none_before line place long = absurd (none long)
    where
      none : 0 ≡ suc place → ⊥
      none e = omega arith

  none_told : 0 ≡ field_repairs s []
  unfolding field_repairs latest sum
  none_told = refl

  -- lines in turn from a fresh walk on
  pub tally_in_turn : (start : ℕ) (ks : List ℕ) → is_line system start ≡ true → tally_from s start 0 ks ≡ field_repairs s (passed_from s start ks)
  tally_in_turn start ks a_line = tally_from_is [] ks start 0 a_line (none_before start) none_told

-- ---- walks that are reached
record Known (system : ℕ) (h : List Passed) (w : Walk) : Type 0 where
  system_is : w.system ≡ system
  a_line : is_line system w.line ≡ true
  follows : Follows (system_of system) h w.line
  tallied : Tallied system h w

fresh_is : (system start : ℕ) → (fresh_of system start).number ≡ 0 → (fresh_of system start).walk ≡ fresh_walk system start
fresh_is system start z = ap (λ (f : Fresh). f.walk) (fresh_named system start (sym (fresh_number system start) ∙ z))

known : (system start : ℕ) → (fresh_of system start).number ≡ 0 → {h : List Passed} {w : Walk} → Reached system start h w → Known system h w
unfolding advanced_of due_with
known system start z begun =
    subst (Known system []) (sym (fresh_is system start z))
    (record {
      system_is = refl;
      a_line = (accepted_named system start (sym (fresh_number system start) ∙ z)).a_line;
      follows = none_before system start;
      tallied = record { told = none_told system; tally = omega arith; repairs = omega arith };
    })
known system start z (then {h = h} {w = w} v report reached stands) =
    let k = known system start z reached in
    let before = k.tallied in
    let d = due_with (system_of w.system) w.line v in
    let p : Passed = record { line = w.line; repairs = repairs_of report } in
    let next : (advanced_of w d report).line ≡ next_line (system_of system) w.line = ap (λ (n : ℕ). next_line (system_of n) w.line) k.system_is in
    record {
      system_is = k.system_is;
      a_line = subst (λ (n : ℕ). is_line system n ≡ true) (sym next) (next_line_in system w.line k.a_line);
      follows = subst (Follows (system_of system) (h ++ (p ∷ []))) (sym next) (follows_next system h p k.a_line);
      tallied =
          record {
            told =
                ap (λ (n : ℕ). tally_with (system_of n) w.line w.tally (repairs_of report)) k.system_is
                ∙ ap (λ (t : ℕ). tally_with (system_of system) w.line t (repairs_of report)) before.told
                ∙ sym (field_turns (system_of system) h w.line (repairs_of report) (in_range system w.line k.a_line) k.follows);
            tally = omega (arith, before.tally, tally_with_few (system_of w.system) w.line w.tally (repairs_of report));
            repairs = omega (arith, before.repairs, at_most_two report);
          };
    }

pub reached_tallied : ReachedTallied
reached_tallied system start h w z reached = (known system start z reached).tallied

pub reached_stands : ReachedStands
reached_stands system start h w z reached room =
    let k = known system start z reached in
    let named = accepted_named system start (sym (fresh_number system start) ∙ z) in
    good_accepted w
    (record {
      system = ap is_system k.system_is ∙ named.a_system;
      line = ap (λ (n : ℕ). is_line n w.line) k.system_is ∙ k.a_line;
      lines = room;
      repairs = k.tallied.repairs;
      tally = k.tallied.tally;
    })
