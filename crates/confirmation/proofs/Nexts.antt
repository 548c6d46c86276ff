-- Laws of a run's next line: a walk that refuses every line refuses any bytes alike, and no line changes the walk's system.
-- Assumes nothing.
use Rattle.std.proofs.Common.{◌≡◌, ℕ, eqb, List, refl}
use Rattle.refusal.specs.declared.Refusal.{Refusal}
use Rattle.refusal.proofs.Cases.{by_cond}
use Rattle.timing.specs.declared.Report.{Report}
use Rattle.system.specs.declared.walk.Walk.{Walk}
use Rattle.system.specs.Walk.{walk_refusal, advanced_of, line_bytes}
use Rattle.system.specs.declared.walk.PacketWords.{PacketWords}
use Rattle.system.specs.declared.walk.Judgement.{Judgement}
use Rattle.system.specs.Judgement.{judgement_of, refused_at, accepted_at}
use Rattle.system.specs.declared.due.Due.{Due}
use Rattle.reader.specs.Judge.{line_judged}
use Rattle.bytewise.specs.Bytes.{bytes_refusal}
use Rattle.bytewise.proofs.Judged.{judged_walk}
use Rattle.confirmation.specs.declared.Run.{Run}
use Rattle.confirmation.specs.Run.{judged_next}

-- a run that ended with a refusal, its walk standing
abbrev pub ended_with : Run → Refusal → Run
ended_with r refusal =
    record { system = r.system; start = r.start; walk = r.walk; number = refusal.number; place = refusal.place }

-- the walk after a judgement is one of the same system
judgement_system : (r : Refusal) (w : Walk) (d : Due) (report : Report) (packets : PacketWords) → (judgement_of r w d report packets).walk.system ≡ w.system
unfolding judgement_of advanced_of
judgement_system r w d report packets =
    by_cond (λ (j : Judgement). j.walk.system ≡ w.system) (eqb r.number 0) (accepted_at w d report packets) (refused_at w r)
    (λ e. refl) (λ e. refl)

pub next_refused : (r : Run) (bytes : List ℕ) → ((walk_refusal r.walk).number ≡ 0 → ⊥)
    → judged_next r bytes ≡ ended_with r (walk_refusal r.walk)
unfolding judged_next
next_refused r bytes n = rw (judged_walk r.walk bytes n)

pub next_system : (r : Run) (bytes : List ℕ) → (judged_next r bytes).walk.system ≡ r.walk.system
unfolding judged_next line_judged
next_system r bytes = judgement_system (bytes_refusal r.walk bytes) r.walk _ _ _

pub next_line_bytes : (r : Run) (bytes : List ℕ) → line_bytes (judged_next r bytes).walk ≡ line_bytes r.walk
next_line_bytes r bytes = rw (next_system r bytes)
