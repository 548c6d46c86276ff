-- Judging and taking line by line up to the first refusal, by the definitions of the two calls in turn.
use Rattle.std.specs.Prelude.{ℕ, List, [], ◌∷◌, Bool, cond, eqb}
use Rattle.system.specs.declared.walk.Walk.{Walk}
use Rattle.system.specs.declared.walk.Judgement.{Judgement}
use Rattle.system.specs.Walk.{due_in}
use Rattle.line.specs.Samples.{Samples, Packets, packets_of}
use Rattle.reader.specs.Take.{in_turn}

-- what comes of it: the V of each accepted line, the samples of each whose V is 0, the packets of each, and the last answer's number, place and walk
pub record Played : Type 0 where
  pub vs : List Bool
  pub pictures : List Samples
  pub packets : List Packets
  pub number : ℕ
  pub place : ℕ
  pub walk : Walk

-- a line more: its samples are returned where its V is 0, and its packets, the parts of its own words in which they stand
abbrev pub and_then : Bool → Samples → Packets → Played → Played
and_then v b k rest =
    record {
      vs = v ∷ rest.vs;
      pictures = cond v rest.pictures (b ∷ rest.pictures);
      packets = k ∷ rest.packets;
      number = rest.number;
      place = rest.place;
      walk = rest.walk;
    }

abbrev pub stopped_by : Judgement → Played
stopped_by j = record { vs = []; pictures = []; packets = []; number = j.number; place = j.place; walk = j.walk }

-- the sample buffers hold what the line before left in them
unfoldable pub play : Walk → Samples → List (List ℕ) → Played
play w b [] = record { vs = []; pictures = []; packets = []; number = 0; place = 0; walk = w }
play w b (words ∷ rest) =
    cond (eqb (in_turn w words b).judgement.number 0)
    (and_then (due_in w words).v (in_turn w words b).buffers (packets_of (due_in w words) words)
    (play (in_turn w words b).judgement.walk (in_turn w words b).buffers rest))
    (stopped_by (in_turn w words b).judgement)
