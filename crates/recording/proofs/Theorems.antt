-- Demand 3: what went in is what reads back, and nothing else is ever confirmed. By induction over the lines of an image, of which a recording
-- with one fall line is one; a line's words are looked at nowhere here. Assumes nothing.
use Prim.Native.Nat.{ℕ, suc, ◌+◌, ◌*◌, ◌<◌, ◌≤◌}
use mathlib.Core.Path.{◌≡◌, refl, sym, ap, subst, ◌∙◌}
use mathlib.Core.List.{List, [], ◌∷◌, ◌++◌, append-nil}
use mathlib.Core.Bool.{Bool, true, false}
use native.Mathlib.Omega.{arith}
use lib.Dec.{eqb}
use lib.ListN.{length, get_or}
use borrow.Author.Tests.{ne_eqb, eqb-true, eqb-false}
use Rattle.refusal.proofs.Cases.{by_test}
use Rattle.timing.specs.Code.{correction_of}
use Rattle.timing.specs.Report.{code_report_of}
use Rattle.timing.proofs.Laws.{one_repair}
use Rattle.system.specs.declared.System.{System}
use Rattle.system.specs.declared.walk.Walk.{Walk}
use Rattle.system.specs.Figures.{line_length, sav_offset, active_offset, is_system, system_of, is_fall, v_written, next_line}
use Rattle.system.specs.Walk.{most_lines, is_line, fresh_of, MayHave, due_in, fallen_by, tally_with}
use Rattle.system.proofs.Laws.{tally_with_few, Good, next_line_in, line_is_parts, fresh_accepted, accepted_named}
use Rattle.system.proofs.Theorems.{fresh_number}
use Rattle.system.proofs.Falls.{fresh_may, next_may, due_stands}
use Rattle.system.specs.Tally.{sum}
use Rattle.system.proofs.Tally.{tally_from, tally_in_turn, field_few}
use Rattle.system.specs.declared.due.Due.{Due}
use Rattle.system.specs.Due.{due_with, due_of}
use Rattle.line.specs.Fault.{word_refusal}
use Rattle.line.specs.Samples.{Samples, Content, samples_of, content_of, line_of}
use Rattle.line.specs.Fit.{Measured, Fit}
use Rattle.line.specs.Damage.{Damaged, DamagedUpTo}
use Rattle.line.proofs.Places.{taken_measured}
use Rattle.line.proofs.Writing.{line_length_is}
use Rattle.line.proofs.Images.{repairs_at, accepted_fit, accepted_image}
use Rattle.system.specs.Judgement.{refused_at}
use Rattle.writer.specs.Write.{due_refusal}
use Rattle.writer.proofs.Theorems.{due_fits, fitting_due, written_samples_fit, accepted_writes_the_line}
use Rattle.recording.specs.Recording.{Recording, end, next, Line, lines_of, vs_of, pictures_of, packets_in, line_after_all, fallen_after, Image, no_line, line_more, TwoInverted, in_eav, in_sav}
use Rattle.recording.specs.Promise.{walk_behind, played_through}
use Rattle.reader.specs.Take.{in_turn}
use Rattle.recording.specs.Play.{Played, and_then, stopped_by, play}
use Rattle.recording.proofs.OneLine.{buffers_measured, Accepted, answered_accepted}
use Rattle.recording.proofs.Lines.{at, behind, line_accepted, plays_on, two_there_eav, two_there_sav, stops}

abbrev after : List Line → Played → Played
after ls r =
    record {
      vs = vs_of ls ++ r.vs;
      pictures = pictures_of ls ++ r.pictures;
      packets = packets_in ls ++ r.packets;
      number = r.number;
      place = r.place;
      walk = r.walk;
    }

-- a line before those behind it
kept_before : (v : Bool) (c : Content) (ls : List Line) (r : Played)
    → and_then v c.samples c.packets (after ls r) ≡ after (record { v = v; content = c } ∷ ls) r
kept_before true c ls r = refl
kept_before false c ls r = refl

-- what is played from buffers that hold something of the right lengths
abbrev PlaysFrom : Walk → List (List ℕ) → (Samples → Played) → Samples → Type 0
PlaysFrom w reads f b = (left : Samples) × Measured left × (play w b reads ≡ f left)

-- a line has its system's length
pub line_size : (s : System) (line : ℕ) (v : Bool) (c : Content) → length (line_of (due_with s line v) c) ≡ line_length s
unfolding due_with
line_size s line v c = line_length_is (due_with s line v) c

-- an image is read to its end, whatever follows it
through : {system line fallen : ℕ} {altered : List ℕ} {ls : List Line} {reads : List (List ℕ)} → Image system line fallen ls reads altered
    → is_system system ≡ true → (lines repairs tally : ℕ) (b : Samples) → Measured b → (rest : List (List ℕ))
    → is_line system line ≡ true → lines + length ls ≤ most_lines → repairs ≤ 2 * lines → tally ≤ repairs
    → PlaysFrom (at system line lines repairs fallen tally) (reads ++ rest)
    (λ left. after ls (play (at system (line_after_all system line ls) (lines + length ls) (repairs + sum altered) (fallen_after fallen ls) (tally_from (system_of system) line tally altered)) left rest)) b
unfolding sum
through {system} {line} no_line hs lines repairs tally b m rest hl hn hr ht =
    let e : lines + 0 ≡ lines = omega arith in
    let f : repairs + 0 ≡ repairs = omega arith in
    (b, m, rw (e, f))
through {system} (line_more {line = line} {fallen = fallen} {eav = eav} {sav = sav} {altered = altered} {l = l} {read = read} {ls = ls} {reads = reads} room may written dam few-eav few-sav more) hs lines repairs tally b m rest hl hn hr ht =
    let he : eav ≤ 1 = omega (arith, few-eav) in
    let hs' : sav ≤ 1 = omega (arith, few-sav) in
    let w = at system line lines repairs fallen tally in
    let good : Good w = record { system = hs; line = hl; lines = omega arith; repairs = hr; tally = ht } in
    let d = due_with (system_of system) line l.v in
    let fits = (due_fits d l.content room written).1 in
    let size = length (line_of d l.content) in
    let whole = line_size (system_of system) line l.v l.content in
    let low : size ≤ line_length (system_of system) = omega arith in
    let accepted = line_accepted w good b m l.v may l.content fits read eav sav size low dam whole he hs' in
    let next-tally = tally_with (system_of system) line tally (eav + sav) in
    let rest_of = through more hs (lines + 1) (repairs + (eav + sav)) next-tally (in_turn w read b).buffers (buffers_measured w b read accepted m) rest
    (next_line_in system line hl) (omega arith) (omega arith) (omega (arith, tally_with_few (system_of system) line tally (eav + sav))) in
    let e : lines + 1 + length ls ≡ lines + suc (length ls) = omega arith in
    let f : repairs + (eav + sav) + sum altered ≡ repairs + (eav + sav + sum altered) = omega arith in (
      rest_of.0,
      rest_of.1,
      plays_on w good b m l.v may l.content fits read eav sav size low dam whole he hs' (reads ++ rest)
          ∙ ap (and_then l.v l.content.samples l.content.packets) rest_of.2
          ∙ kept_before l.v l.content ls _
          ∙ rw (e, f),
    )

-- ---- a fresh walk
pub record Fresh (system start : ℕ) : Type 0 where
  pub a_system : is_system system ≡ true
  pub a_line : is_line system start ≡ true
  pub walk : (fresh_of system start).walk ≡ at system start 0 0 0 0

pub fresh : (system start : ℕ) → (fresh_of system start).number ≡ 0 → Fresh system start
fresh system start e =
    let named = accepted_named system start (sym (fresh_number system start) ∙ e) in
    record { a_system = named.a_system; a_line = named.a_line; walk = ap (λ f. f.walk) (fresh_accepted system start named.a_system named.a_line) }

-- the walk after lines is one that refuses no line, as long as there is room for one more
pub line_after_in : (system line : ℕ) (ls : List Line) → is_line system line ≡ true → is_line system (line_after_all system line ls) ≡ true
line_after_in system line [] h = h
line_after_in system line (l ∷ ls) h = line_after_in system (next_line (system_of system) line) ls (next_line_in system line h)

pub few : {system line fallen : ℕ} {altered : List ℕ} {ls : List Line} {reads : List (List ℕ)} → Image system line fallen ls reads altered
    → sum altered ≤ 2 * length ls
unfolding sum
few no_line = omega arith
few (line_more room may written dam he hs more) = omega (arith, few more)

-- ---- a recording is an image: with one fall line V may always stand where it is written
pub as_many : (system fall line : ℕ) (cs : List Content) → length (lines_of system fall line cs) ≡ length cs
as_many system fall line [] = refl
as_many system fall line (c ∷ cs) = ap suc (as_many system fall (next_line (system_of system) line) cs)

-- it may stand at this line and this record, where there is such a fall line at all
abbrev Falls : ℕ → ℕ → ℕ → ℕ → Type 0
Falls system fall line fallen = is_fall (system_of system) fall ≡ true → MayHave (system_of system) line fallen (v_written (system_of system) line fall)

falls_on : (system fall line : ℕ) → Falls system fall (next_line (system_of system) line) (fallen_by (v_written (system_of system) line fall))
falls_on system fall line is = next_may (system_of system) line fall is

pub falls_behind : (system fall line fallen : ℕ) (cs : List Content) → Falls system fall line fallen
    → Falls system fall (line_after_all system line (lines_of system fall line cs)) (fallen_after fallen (lines_of system fall line cs))
falls_behind system fall line fallen [] falls = falls
falls_behind system fall line fallen (c ∷ cs) falls = falls_behind system fall (next_line (system_of system) line) _ cs (falls_on system fall line)

fitting_line : (s : System) (line : ℕ) (v : Bool) (c : Content) → Fit (due_with s line v) c → (due_refusal (due_with s line v) c (line_length s)).number ≡ 0
unfolding due_with
fitting_line s line v c fits = fitting_due (due_with s line v) c (line_length s) refl fits

pub recording_image : {system fall line fallen : ℕ} {altered : List ℕ} {cs : List Content} {reads : List (List ℕ)} → Recording system fall line cs reads altered
    → Falls system fall line fallen → Image system line fallen (lines_of system fall line cs) reads altered
unfolding due_of
recording_image end falls = no_line
recording_image {system} {fall} (next {line = line} {eav = eav} {sav = sav} {c = c} {read = read} buffer written dam he hs more) falls =
    let able = (written_samples_fit system line fall c (length buffer)).0 written in
    let d = due_of (system_of system) line fall in
    line_more (line_length (system_of system)) (falls able.a_fall) (fitting_line (system_of system) line (v_written (system_of system) line fall) c able.fit)
    (subst (λ (l : List ℕ). Damaged d l read eav sav) (accepted_writes_the_line system line fall c buffer written).0 dam) he hs
    (recording_image more (falls_on system fall line))

-- a line with two inverted bits in a code is refused there
pub two_inverted_line_refused : {w : Walk} {fall : ℕ} {c : Content} {read : List ℕ} {place : ℕ} → Good w → (b : Samples) → Measured b
    → Falls w.system fall w.line w.fallen
    → TwoInverted w.system fall w.line c read place → (in_turn w read b).judgement ≡ refused_at w (record { number = 8; place = place })
unfolding due_of
two_inverted_line_refused {w} {fall} {c} {read} good b m falls (in_eav {sav = sav} buffer written dam) =
    let s = system_of w.system in
    let low : 4 ≤ line_length s = omega (arith, line_is_parts s) in
    let able = (written_samples_fit w.system w.line fall c (length buffer)).0 written in
    let struck = subst (λ (l : List ℕ). DamagedUpTo 4 (due_of s w.line fall) l read 2 sav) (accepted_writes_the_line w.system w.line fall c buffer written).0 dam in
    two_there_eav w good b m (v_written s w.line fall) (falls able.a_fall) c able.fit read 2 sav 4 low struck (omega arith) refl
two_inverted_line_refused {w} {fall} {c} {read} good b m falls (in_sav {eav = eav} buffer written dam he) =
    let s = system_of w.system in
    let end-at = active_offset s in
    let low : end-at ≤ line_length s = omega (arith, line_is_parts s) in
    let able = (written_samples_fit w.system w.line fall c (length buffer)).0 written in
    let struck = subst (λ (l : List ℕ). DamagedUpTo end-at (due_of s w.line fall) l read eav 2) (accepted_writes_the_line w.system w.line fall c buffer written).0 dam in
    two_there_sav w good b m (v_written s w.line fall) (falls able.a_fall) c able.fit read eav 2 end-at low struck (omega arith) he refl

-- buffers of the right lengths, whatever they hold
pub blank : Samples
blank = samples_of (due_with (system_of 0) 0 false) []

pub blank_measured : Measured blank
unfolding blank
blank_measured = taken_measured (due_with (system_of 0) 0 false) []

-- A, of lines each written with a V that is due: read to their end, every written sample of every line with V = 0 is returned, and repairs are
-- exactly the altered codes.
pub image_read : {system start : ℕ} {altered : List ℕ} {ls : List Line} {reads : List (List ℕ)} → (fresh_of system start).number ≡ 0
    → Image system start 0 ls reads altered → length ls ≤ most_lines → (buffers : Samples) → Measured buffers
    → play (fresh_of system start).walk buffers reads ≡ played_through system start ls altered
unfolding play
image_read {system} {start} {altered} {ls} {reads} hf image hn b m =
    let f = fresh system start hf in
    let t = through image f.a_system 0 0 0 b m [] f.a_line (omega arith) (omega arith) (omega arith) in
    let e : 0 + length ls ≡ length ls = omega arith in
    let g : 0 + sum altered ≡ sum altered = omega arith in
    ap (λ (w : Walk). play w b reads) f.walk ∙ ap (play (at system start 0 0 0 0) b) (sym (append-nil reads)) ∙ t.2
    ∙ rw (e, g, tally_in_turn system start altered f.a_line, append-nil (vs_of ls), append-nil (pictures_of ls), append-nil (packets_in ls))

-- A. A recording of at most 10,000,000 lines, each code altered in at most one bit, is read to its end.
pub recording_reads_back : {system fall start : ℕ} {altered : List ℕ} {cs : List Content} {reads : List (List ℕ)} → (fresh_of system start).number ≡ 0
    → Recording system fall start cs reads altered → length cs ≤ most_lines → (buffers : Samples) → Measured buffers
    → play (fresh_of system start).walk buffers reads ≡ played_through system start (lines_of system fall start cs) altered
recording_reads_back {system} {fall} {start} {cs = cs} hf rec hn b m =
    image_read hf (recording_image rec (fresh_may (system_of system) start fall)) (omega (arith, as_many system fall start cs)) b m

-- B. Recordings of different samples, damaged so, never coincide: from the same lines read, the same V and the same samples were written.
pub damaged_never_coincide : {system fall other start : ℕ} {k l : List ℕ} {cs es : List Content} {reads : List (List ℕ)} → (fresh_of system start).number ≡ 0
    → Recording system fall start cs reads k → Recording system other start es reads l → length cs ≤ most_lines → length es ≤ most_lines
    → (vs_of (lines_of system fall start cs) ≡ vs_of (lines_of system other start es))
    × (pictures_of (lines_of system fall start cs) ≡ pictures_of (lines_of system other start es))
    × (packets_in (lines_of system fall start cs) ≡ packets_in (lines_of system other start es))
damaged_never_coincide hf one two hp hq =
    let same = sym (recording_reads_back hf one hp blank blank_measured) ∙ recording_reads_back hf two hq blank blank_measured in
    (ap (λ (r : Played). r.vs) same, ap (λ (r : Played). r.pictures) same, ap (λ (r : Played). r.packets) same)

-- C. Where a code has exactly two of the seven bits inverted and no earlier code more than one, the lines before are returned and that code
-- is refused with 8 in its place; the walk stands, whatever follows.
pub two_inverted_refused : {system fall start place : ℕ} {altered : List ℕ} {cs : List Content} {reads : List (List ℕ)} {c : Content} {read : List ℕ}
    → (fresh_of system start).number ≡ 0 → Recording system fall start cs reads altered → length cs < most_lines
    → TwoInverted system fall (line_after_all system start (lines_of system fall start cs)) c read place
    → (rest : List (List ℕ)) (buffers : Samples) → Measured buffers
    → play (fresh_of system start).walk buffers (reads ++ (read ∷ rest))
    ≡ record {
      vs = vs_of (lines_of system fall start cs);
      pictures = pictures_of (lines_of system fall start cs);
      packets = packets_in (lines_of system fall start cs);
      number = 8;
      place = place;
      walk = walk_behind system start (lines_of system fall start cs) altered;
    }
two_inverted_refused {system} {fall} {start} {place} {altered} {cs} {reads} {c} {read} hf rec hn two rest b m =
    let f = fresh system start hf in
    let ls = lines_of system fall start cs in
    let many = as_many system fall start cs in
    let falls = fresh_may (system_of system) start fall in
    let image = recording_image rec falls in
    let t = through image f.a_system 0 0 0 b m (read ∷ rest) f.a_line (omega arith) (omega arith) (omega arith) in
    let e : 0 + length ls ≡ length ls = omega arith in
    let g : 0 + sum altered ≡ sum altered = omega arith in
    let good : Good (walk_behind system start ls altered) =
    record { system = f.a_system; line = line_after_in system start ls f.a_line; lines = omega arith; repairs = few image; tally = field_few (system_of system) start altered } in
    ap (λ (w : Walk). play w b (reads ++ (read ∷ rest))) f.walk ∙ t.2
    ∙ rw (e, g, tally_in_turn system start altered f.a_line)
    (ap (after ls) (stops _ t.0 read place (two_inverted_line_refused good t.0 t.1 (falls_behind system fall start 0 cs falls) two) rest)
    ∙ rw (append-nil (vs_of ls), append-nil (pictures_of ls), append-nil (packets_in ls)))

-- ---- an accepted line is one of an image: written with the V that was due, for the samples and packets that it gives, and read with its
-- repairs inverted
module _ (w : Walk) (read : List ℕ) (accepted : Accepted w read) where
  pub v_stood : Bool
  v_stood = (due_stands w (get_or read 3 0)).0

  abbrev pub stood : Due
  stood = due_with (system_of w.system) w.line v_stood

  pub may_stand : MayHave (system_of w.system) w.line w.fallen v_stood
  unfolding v_stood
  may_stand = (due_stands w (get_or read 3 0)).1

  pub due_stood : due_in w read ≡ stood
  unfolding v_stood
  due_stood = (due_stands w (get_or read 3 0)).2

  abbrev pub given : Content
  given = content_of stood read

  -- no word of it is refused by that
  well : (word_refusal stood read).number ≡ 0
  well = ap (λ (x : Due). (word_refusal x read).number) (sym due_stood) ∙ accepted.words_accepted

  pub given_fits : Fit stood given
  unfolding due_with
  given_fits = accepted_fit stood read accepted.size well

  pub writable : (due_refusal stood given (length read)).number ≡ 0
  unfolding due_with
  writable = fitting_due stood given (length read) accepted.size given_fits

  pub image : Damaged stood (line_of stood given) read (repairs_at read 3) (repairs_at read (sav_offset (system_of w.system) + 3))
  unfolding due_with
  image = accepted_image stood read accepted.size well

-- where reading a line and more ends well, the line was accepted
goes_on : (w : Walk) (b : Samples) (read : List ℕ) (rest : List (List ℕ)) → (play w b (read ∷ rest)).number ≡ 0 → (in_turn w read b).judgement.number ≡ 0
unfolding play
goes_on w b read rest z =
    by_test (eqb (in_turn w read b).judgement.number 0) (λ t. eqb-true _ _ t)
    (λ f. absurd (eqb-false _ _ f (sym (ap (λ (r : Played). r.number) (opened (eqb-false _ _ f))) ∙ z)))
  where
    opened : ((in_turn w read b).judgement.number ≡ 0 → ⊥) → play w b (read ∷ rest) ≡ stopped_by (in_turn w read b).judgement
    opened n = simp (ne_eqb _ _ n)

-- lines that are read through from a walk on are an image
is_image : (w : Walk) (reads : List (List ℕ)) (b : Samples) → Measured b → w.lines ≤ most_lines → (play w b reads).number ≡ 0
    → (ls : List Line) × (k : List ℕ) × Image w.system w.line w.fallen ls reads k × (w.lines + length ls ≤ most_lines)
unfolding play
is_image w [] b m few z = ([], [], no_line, omega arith)
is_image w (read ∷ rest) b m few z =
    let answered = goes_on w b read rest z in
    let accepted = answered_accepted w b read answered in
    let v = v_stood w read accepted in
    let c = given w read accepted in
    let e = repairs_at read 3 in
    let s = repairs_at read (sav_offset (system_of w.system) + 3) in
    let he : e ≤ 1 = one_repair (code_report_of (correction_of (get_or read 3 0))) in
    let hs : s ≤ 1 = one_repair (code_report_of (correction_of (get_or read (sav_offset (system_of w.system) + 3) 0))) in
    let may = may_stand w read accepted in
    let struck = image w read accepted in
    let size = length (line_of (stood w read accepted) c) in
    let whole = line_size (system_of w.system) w.line v c in
    let low : size ≤ line_length (system_of w.system) = omega arith in
    let q = plays_on w accepted.good b m v may c (given_fits w read accepted) read e s size low struck whole he hs rest in
    let i = is_image (behind w v (e + s)) rest (in_turn w read b).buffers
    (buffers_measured w b read answered m) (omega (arith, accepted.good.lines)) (ap (λ (r : Played). r.number) (sym q) ∙ z) in (
      record { v = v; content = c } ∷ i.0,
      (e + s) ∷ i.1,
      line_more (length read) may (writable w read accepted) struck he hs i.2,
      omega (arith, i.3),
    )

-- D. Nothing else is ever confirmed: lines that are read through are such an image of the lines returned, of at most 10,000,000.
pub read_through_is_image : (system start : ℕ) → (fresh_of system start).number ≡ 0 → (reads : List (List ℕ)) (buffers : Samples)
    → Measured buffers → (play (fresh_of system start).walk buffers reads).number ≡ 0
    → (ls : List Line) × (altered : List ℕ) × Image system start 0 ls reads altered × (length ls ≤ most_lines)
    × (play (fresh_of system start).walk buffers reads ≡ played_through system start ls altered)
read_through_is_image system start hf reads b m z =
    let f = fresh system start hf in
    let i = is_image (at system start 0 0 0 0) reads b m (omega arith) (ap (λ (w : Walk). (play w b reads).number) (sym f.walk) ∙ z) in
    let few : length i.0 ≤ most_lines = omega (arith, i.3) in
    (i.0, i.1, i.2, few, image_read hf i.2 few b m)
