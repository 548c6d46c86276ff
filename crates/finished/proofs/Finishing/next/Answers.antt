-- `finished::Finishing::next` meets its contract: of a clean line nothing is put, and of another its entry, between what stands before it and
-- behind it. Assumes nothing.
use Rattle.std.proofs.Common.{◌≡◌, ℕ, ◌+◌, ◌-◌, ◌%◌, ◌^◌, ◌≤◌, List, ◌++◌, length, take, drop, sym, refl, ap, ◌∙◌, ap₂, arith, length-drop, take-append-drop, length-take-le, eq-eqb, ne_eqb}
use Rattle.refusal.specs.Answer.{none}
use Rattle.refusal.proofs.Firsts.{same_number, written_accepted}
use Rattle.timing.specs.Report.{repairs_of}
use Rattle.system.specs.declared.walk.Judgement.{Judgement}
use Rattle.bytewise.specs.Bytes.{judged_bytes}
use Rattle.confirmation.specs.declared.Run.{Run}
use Rattle.confirmation.specs.Run.{run_after, judged_next}
use Rattle.index.specs.declared.entry.Entry.{Entry}
use Rattle.index.specs.Entries.{entry_length, entry_bytes}
use Rattle.index.specs.Parts.{room_refusal, entry_after}
use Rattle.finished.specs.declared.Finishing.{Finishing}
use Rattle.finished.specs.Finish.{line_repairs, line_adds, counted_in, finished_next, room_after}
use Rattle.finished.proofs.Follows.{adds_none, adds_entry, counts_none, entry_long}
use Rattle.finished.proofs.Finishing.next.Goals as goal

-- an entry into the room for it
entry_put : (e : Entry) (part : List ℕ) → length part ≡ entry_length → entry_after e part ≡ entry_bytes e
unfolding entry_after
entry_put e part long =
    let fits : room_refusal entry_length (length part) ≡ none = simp (eq-eqb _ _ long) in
    written_accepted (room_refusal entry_length (length part)) (entry_bytes e) part (same_number fits)

module _ (f : Finishing) (line room : List ℕ) (at : ℕ) (judgement : Judgement) (run : Run) (repairs : ℕ)
    (judges : judgement ≡ judged_bytes f.run.walk line) (judged : run ≡ run_after f.run judgement) (told : repairs ≡ repairs_of judgement.report) where
  is_run : run ≡ judged_next f.run line
  unfolding judged_next
  is_run = judged ∙ ap (run_after f.run) judges

  is : repairs ≡ line_repairs f.run.walk line
  is = told ∙ ap (λ (j : Judgement). repairs_of j.report) judges

  clean : repairs ≡ 0
      → (record { run = run; entries = f.entries } ≡ finished_next f line)
      × ((at ≡ at + length (line_adds f.run.walk line)) × (room ≡ take at room ++ room_after (line_adds f.run.walk line) (drop at room)))
  unfolding finished_next room_after
  clean e =
      let none = adds_none f.run.walk line (sym is ∙ e) in (
        ap₂ (λ (r : Run) (k : ℕ). record { run = r; entries = k }) is_run (sym (counts_none f.entries f.run.walk line (sym is ∙ e))),
        (rw none (omega arith), rw none (sym (take-append-drop at room))),
      )

  unclean : (entries : ℕ) (put : List ℕ) → (repairs ≡ 0 → ⊥) → entries ≡ (f.entries + 1) % 2 ^ 32 → at + entry_length ≤ length room
      → put ≡ entry_after (record { ordinal = f.run.walk.lines; repairs = repairs }) (take (at + entry_length - at) (drop at room))
      → (record { run = run; entries = entries } ≡ finished_next f line)
      × ((at + entry_length ≡ at + length (line_adds f.run.walk line))
      × (take at room ++ (put ++ drop (at + entry_length - at) (drop at room)) ≡ take at room ++ room_after (line_adds f.run.walk line) (drop at room)))
  unfolding finished_next room_after counted_in
  unclean entries put n counted fits written =
      let entry : Entry = record { ordinal = f.run.walk.lines; repairs = repairs } in
      let some : line_repairs f.run.walk line ≡ 0 → ⊥ = λ e. n (is ∙ e) in
      let adds : entry_bytes entry ≡ line_adds f.run.walk line =
      ap (λ (k : ℕ). entry_bytes (record { ordinal = f.run.walk.lines; repairs = k })) is ∙ sym (adds_entry f.run.walk line some) in
      let long : length (line_adds f.run.walk line) ≡ entry_length = ap (λ (l : List ℕ). length l) (sym adds) ∙ entry_long entry in
      let six : at + entry_length - at ≡ entry_length = omega arith in
      let part = length-take-le (at + entry_length - at) (drop at room) (omega (arith, length-drop at room)) in (
        ap₂ (λ (r : Run) (k : ℕ). record { run = r; entries = k }) is_run (simp (ne_eqb _ _ some) counted),
        (
          omega arith,
          ap (λ (l : List ℕ). take at room ++ l)
              (ap₂ (λ (l : List ℕ) (k : ℕ). l ++ drop k (drop at room)) (written ∙ entry_put entry _ (part ∙ six) ∙ adds) (six ∙ sym long)),
        ),
      )

pub returns-then-repairs-eq0 : goal.returns-then-repairs-eq0
returns-then-repairs-eq0 c =
    let both = let a = c.args in
    clean a.self a.line.now a.room.now a.at c.judge-judgement.result _ _ c.judge-judgement.ensures c.judged.ensures
    c.repairs-repairs.ensures c.if-repairs-eq0.true in
    record { state = both.0; put = both.1.0; room = both.1.1 }

pub returns : goal.returns
returns c =
    let both = let a = c.args in
    unclean a.self a.line.now a.room.now a.at c.judge-judgement.result _ _ c.judge-judgement.ensures c.judged.ensures
    c.repairs-repairs.ensures _ _ c.if-repairs-eq0.false refl c.requires c.put.ensures.room in
    record { state = both.0; put = both.1.0; room = both.1.1 }
