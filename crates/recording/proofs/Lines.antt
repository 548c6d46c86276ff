-- One line as it is read at its walk: played on, or stopped with 8. Shown once over whatever is due in it, and used for the line with a
-- number and a V. Assumes nothing.
use Prim.Native.Nat.{ℕ, ◌+◌, ◌<◌, ◌≤◌}
use mathlib.Core.Path.{◌≡◌, refl, sym, ap, ◌∙◌}
use mathlib.Core.List.{List, [], ◌∷◌}
use mathlib.Core.Bool.{Bool, true, false}
use native.Mathlib.Omega.{arith}
use lib.ListN.{length, get_or}
use borrow.Author.Tests.{eq-eqb, ne_eqb}
use Rattle.refusal.proofs.Cases.{by_test}
use Rattle.timing.specs.Code.{seven_of, correction_of}
use Rattle.timing.specs.Report.{code_report_of, repairs_of, clean_report}
use Rattle.timing.proofs.Laws.{found}
use Rattle.system.specs.declared.System.{System}
use Rattle.system.specs.declared.due.Due.{Due}
use Rattle.system.specs.declared.walk.Walk.{Walk}
use Rattle.system.specs.declared.walk.Judgement.{Judgement}
use Rattle.system.specs.Figures.{line_length, sav_offset, system_of, next_line}
use Rattle.system.specs.Due.{due_with, flags_of}
use Rattle.system.specs.Walk.{v_seen, MayHave, line_words, fallen_by, tally_with, advanced_of, due_in}
use Rattle.system.specs.Judgement.{accepted_at, refused_at}
use Rattle.system.proofs.Laws.{Good, line_is_parts}
use Rattle.system.proofs.Falls.{due_seen}
use Rattle.line.specs.Fault.{word_refusal, counts_of}
use Rattle.line.specs.Samples.{Samples, Packets, Content, line_of, packets_of}
use Rattle.line.specs.Fit.{Measured, Fit}
use Rattle.line.specs.Parts.{Proper}
use Rattle.line.specs.Damage.{DamagedUpTo, told_of}
use Rattle.line.proofs.Damaged.{read_length, damaged_accepted, two_in_eav, two_in_sav, eav_found, sav_found, eav_counted, sav_counted, eav_told, sav_told, samples_unchanged, counts_read, packets_unchanged}
use Rattle.reader.specs.Judge.{report_of}
use Rattle.reader.specs.Take.{in_turn}
use Rattle.recording.specs.Play.{Played, and_then, stopped_by, play}
use Rattle.recording.proofs.OneLine.{found_seen, flags_seen, accepted_answer, refused_answer, picture_buffers}

abbrev pub at : ℕ → ℕ → ℕ → ℕ → ℕ → ℕ → Walk
at system line lines repairs fallen tally = record { system = system; line = line; lines = lines; repairs = repairs; fallen = fallen; tally = tally }

-- the walk behind a line of this V with so many altered codes
abbrev pub behind : Walk → Bool → ℕ → Walk
behind w v altered =
    at w.system (next_line (system_of w.system) w.line) (w.lines + 1) (w.repairs + altered) (fallen_by v)
    (tally_with (system_of w.system) w.line w.tally altered)

-- ---- a line in which this is due, as it is read
module _ (w : Walk) (good : Good w) (b : Samples) (m : Measured b) (d : Due) (ok : Proper d.fill) (c : Content) (fits : Fit d c) (read : List ℕ)
    (e s end-at : ℕ) (of_system : d.system ≡ system_of w.system) (low : end-at ≤ line_length d.system)
    (dam : DamagedUpTo end-at d (line_of d c) read e s) where
  read_size : length read ≡ line_words w
  read_size = read_length d ok c fits read e s end-at low dam ∙ ap line_length of_system

  -- two bits of a code: refused with 8 there
  pub due_refused : (place : ℕ) → word_refusal (due_in w read) read ≡ record { number = 8; place = place }
      → (in_turn w read b).judgement ≡ refused_at w (record { number = 8; place = place })
  due_refused place eight = refused_answer w good b m read read_size (record { number = 8; place = place }) (λ z. omega arith) eight

  -- the corrected V of EAV is the line's
  pub seen : 3 < end-at → e ≤ 1 → v_seen (correction_of (get_or read 3 0)) ≡ d.v
  seen past he =
      ap v_seen (eav_found d ok c fits read e s end-at low dam past (omega arith))
      ∙ found_seen (flags_of d true) (seven_of (get_or read 3 0)) e he ∙ flags_seen d true

  -- struck in at most one bit of each code: accepted, each inverted bit counted, the samples back
  module _ (is_due : due_in w read ≡ d) (whole : end-at ≡ line_length d.system) (he : e ≤ 1) (hs : s ≤ 1) where
    past_sav : sav_offset d.system + 3 < end-at
    past_sav = omega (arith, line_is_parts d.system)

    -- the report names exactly the inverted bits
    due_reported : report_of d read
        ≡ record { eav = told_of (flags_of d true) (get_or read 3 0); sav = told_of (flags_of d false) (get_or read (sav_offset d.system + 3) 0) }
    unfolding report_of
    due_reported =
        let x = eav_told d ok c fits read e s end-at low dam (omega (arith, past_sav)) he in
        let y = sav_told d ok c fits read e s end-at low dam past_sav hs in
        λ i. record { eav = x i; sav = y i }

    -- and nothing where none is inverted
    due_clean : e ≡ 0 → s ≡ 0 → report_of d read ≡ clean_report
    unfolding report_of
    due_clean ze zs =
        let x = ap code_report_of (eav_found d ok c fits read e s end-at low dam (omega (arith, past_sav)) (omega arith) ∙ ap (found (flags_of d true) (seven_of (get_or read 3 0))) ze) in
        let y = ap code_report_of (sav_found d ok c fits read e s end-at low dam past_sav (omega arith) ∙ ap (found (flags_of d false) (seven_of (get_or read (sav_offset d.system + 3) 0))) zs) in
        λ i. record { eav = x i; sav = y i }

    counted : repairs_of (report_of d read) ≡ e + s
    unfolding report_of
    counted =
        let x = eav_counted d ok c fits read e s end-at low dam (omega (arith, past_sav)) he in
        let y = sav_counted d ok c fits read e s end-at low dam past_sav hs in
        omega arith

    due_read : (in_turn w read b).judgement ≡ accepted_at w d (report_of d read) (counts_of d read)
    due_read =
        accepted_answer w good b m read read_size
        (ap (λ (x : Due). word_refusal x read) is_due ∙ damaged_accepted d ok c fits read e s end-at low dam whole he hs)
        ∙ ap (λ (x : Due). accepted_at w x (report_of x read) (counts_of x read)) is_due

    due_accepted : (in_turn w read b).judgement.number ≡ 0
    due_accepted = ap (λ (j : Judgement). j.number) due_read

    due_walk : (in_turn w read b).judgement.walk ≡ behind w d.v (e + s)
    unfolding advanced_of
    due_walk =
        ap (λ (j : Judgement). j.walk) due_read
        ∙ ap (λ (x : System).
        at w.system (next_line x w.line) (w.lines + 1) (w.repairs + repairs_of (report_of d read)) (fallen_by d.v)
        (tally_with x w.line w.tally (repairs_of (report_of d read)))) of_system
        ∙ ap (behind w d.v) counted

    -- the samples are returned, where the line carries some
    due_returned : d.v ≡ false → (in_turn w read b).buffers ≡ c.samples
    due_returned v =
        picture_buffers w b read due_accepted (ap (λ (x : Due). x.v) is_due ∙ v)
        ∙ rw is_due (samples_unchanged d ok c fits read e s end-at low dam whole v)

    -- and so are the packets
    due_packets : packets_of d read ≡ c.packets
    due_packets = packets_unchanged d ok c fits read e s end-at low dam whole

    due_counts : counts_of d read ≡ record { between = length c.packets.between; active = length c.packets.active }
    due_counts = counts_read d ok c fits read e s end-at low dam whole

    kept : (rest : Played)
        → and_then (due_in w read).v (in_turn w read b).buffers (packets_of (due_in w read) read) rest ≡ and_then d.v c.samples c.packets rest
    kept rest =
        ap (λ (x : Due). and_then x.v (in_turn w read b).buffers (packets_of x read) rest) is_due
        ∙ ap (λ (k : Packets). and_then d.v (in_turn w read b).buffers k rest) due_packets
        ∙ by_test d.v (λ v. simp v) (λ v. ap (λ (q : Samples). and_then d.v q c.packets rest) (due_returned v))

    -- so playing goes on behind the line
    due_plays_on : (rest : List (List ℕ)) → play w b (read ∷ rest)
        ≡ and_then d.v c.samples c.packets
        (play (behind w d.v (e + s)) (in_turn w read b).buffers rest)
    unfolding play
    due_plays_on rest =
        simp (eq-eqb _ _ due_accepted)
        (kept (play (in_turn w read b).judgement.walk (in_turn w read b).buffers rest)
        ∙ ap (λ (v : Walk). and_then d.v c.samples c.packets (play v (in_turn w read b).buffers rest)) due_walk)

-- fill is of ten bits in every line
pub proper : (s : System) (line : ℕ) (v : Bool) → Proper (due_with s line v).fill
unfolding due_with
proper s line v = record { even = omega arith; odd = omega arith }

-- ---- a line of an image, as it is read: what is due in it is of its own V, which may stand at the walk
module _ (w : Walk) (good : Good w) (b : Samples) (m : Measured b) (v : Bool) (may : MayHave (system_of w.system) w.line w.fallen v)
    (c : Content) (fits : Fit (due_with (system_of w.system) w.line v) c) (read : List ℕ) (e s end-at : ℕ)
    (low : end-at ≤ line_length (system_of w.system))
    (dam : DamagedUpTo end-at (due_with (system_of w.system) w.line v) (line_of (due_with (system_of w.system) w.line v) c) read e s) where
  abbrev pub due : Due
  due = due_with (system_of w.system) w.line v

  ok : Proper due.fill
  ok = proper (system_of w.system) w.line v

  of_walk : due.system ≡ system_of w.system
  unfolding due_with
  of_walk = refl

  in_line : end-at ≤ line_length due.system
  unfolding due_with
  in_line = low

  -- up to its EAV, struck in at most one bit there
  pub is_due : 3 < end-at → e ≤ 1 → due_in w read ≡ due
  unfolding due_with
  is_due past he = due_seen w (get_or read 3 0) v may (λ t. seen w good b m due ok c fits read e s end-at of_walk in_line dam past he)

  pub refused_there : (place : ℕ) → word_refusal (due_in w read) read ≡ record { number = 8; place = place }
      → (in_turn w read b).judgement ≡ refused_at w (record { number = 8; place = place })
  refused_there = due_refused w good b m due ok c fits read e s end-at of_walk in_line dam

  pub two_there_eav : 3 < end-at → e ≡ 2 → (in_turn w read b).judgement ≡ refused_at w (record { number = 8; place = 3 })
  two_there_eav past two = refused_there 3 (two_in_eav due ok c fits read e s end-at in_line dam (due_in w read) past two)

  pub two_there_sav : sav_offset (system_of w.system) + 3 < end-at → e ≤ 1 → s ≡ 2
      → (in_turn w read b).judgement ≡ refused_at w (record { number = 8; place = sav_offset (system_of w.system) + 3 })
  unfolding due_with
  two_there_sav past he two =
      refused_there (sav_offset (system_of w.system) + 3)
      (ap (λ (x : Due). word_refusal x read) (is_due (omega arith) he) ∙ two_in_sav due ok c fits read e s end-at in_line dam past he two)

  module _ (whole : end-at ≡ line_length (system_of w.system)) (he : e ≤ 1) (hs : s ≤ 1) where
    ends : end-at ≡ line_length due.system
    unfolding due_with
    ends = whole

    there : due_in w read ≡ due
    there = is_due (omega (arith, line_is_parts (system_of w.system))) he

    pub reported : report_of (due_in w read) read
        ≡ record { eav = told_of (flags_of due true) (get_or read 3 0); sav = told_of (flags_of due false) (get_or read (sav_offset (system_of w.system) + 3) 0) }
    unfolding due_with
    reported =
        ap (λ (x : Due). report_of x read) there ∙ due_reported w good b m due ok c fits read e s end-at of_walk in_line dam there ends he hs

    pub clean_reported : e ≡ 0 → s ≡ 0 → report_of (due_in w read) read ≡ clean_report
    clean_reported ze zs =
        ap (λ (x : Due). report_of x read) there ∙ due_clean w good b m due ok c fits read e s end-at of_walk in_line dam there ends he hs ze zs

    pub line_read : (in_turn w read b).judgement
        ≡ accepted_at w due (report_of (due_in w read) read) (record { between = length c.packets.between; active = length c.packets.active })
    line_read =
        due_read w good b m due ok c fits read e s end-at of_walk in_line dam there ends he hs
        ∙ ap (accepted_at w due (report_of due read)) (due_counts w good b m due ok c fits read e s end-at of_walk in_line dam there ends he hs)
        ∙ ap (λ (x : Due). accepted_at w due (report_of x read) (record { between = length c.packets.between; active = length c.packets.active }))
        (sym there)

    pub line_accepted : (in_turn w read b).judgement.number ≡ 0
    line_accepted = ap (λ (j : Judgement). j.number) line_read

    pub samples_returned : v ≡ false → (in_turn w read b).buffers ≡ c.samples
    unfolding due_with
    samples_returned = due_returned w good b m due ok c fits read e s end-at of_walk in_line dam there ends he hs

    pub packets_returned : packets_of (due_in w read) read ≡ c.packets
    packets_returned =
        ap (λ (x : Due). packets_of x read) there ∙ due_packets w good b m due ok c fits read e s end-at of_walk in_line dam there ends he hs

    pub plays_on : (rest : List (List ℕ)) → play w b (read ∷ rest)
        ≡ and_then v c.samples c.packets (play (behind w v (e + s)) (in_turn w read b).buffers rest)
    unfolding due_with
    plays_on = due_plays_on w good b m due ok c fits read e s end-at of_walk in_line dam there ends he hs

-- a line that is refused with 8 stops the reading
pub stops : (w : Walk) (b : Samples) (read : List ℕ) (place : ℕ) → (in_turn w read b).judgement ≡ refused_at w (record { number = 8; place = place })
    → (rest : List (List ℕ)) → play w b (read ∷ rest) ≡ record { vs = []; pictures = []; packets = []; number = 8; place = place; walk = w }
unfolding play
stops w b read place j rest =
    let n : (in_turn w read b).judgement.number ≡ 8 = ap (λ (x : Judgement). x.number) j in
    simp (ne_eqb (in_turn w read b).judgement.number 0 (λ z. omega arith)) (ap stopped_by j)
