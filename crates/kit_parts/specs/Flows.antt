-- Whole runs of all federates, in any order of their steps, at the level of messages.
use Rattle.std.specs.Prelude.{◌≡◌, ℕ, ◌<◌, ◌≤◌, ◌==◌, Bool, true, false, if◌then◌else◌, List, [], ◌∷◌, ◌++◌, length, map, drop, filter, Option, Some, None}
use Rattle.std.specs.List.{All, range_with_len}
use Rattle.kit_base.specs.declared.message.Message.{Message}
use Rattle.kit_rules.specs.Parts.{Parts}
use Rattle.kit_rules.specs.Federation.{IsFederation}
use Rattle.kit_rules.specs.Delivery.{due_messages}
use Rattle.kit_rules.specs.Simulation.{Block, block, lines_of, seat_at_start, seat_due}
use Rattle.kit_rules.specs.Text.{history_text, simulation_text}
use Rattle.kit_parts.specs.Fronts.{seat_with, seat_after, part, is_transported_to, Standing}
use Rattle.kit_parts.specs.Cuts.{AreBounded}
use Rattle.kit_parts.specs.Merging.{IsMerge}

-- how far each federate is, and for each sender and receiver what is posted and not received, and what is to be posted
pub record Moment : Type 0 where
  pub all : ℕ → Standing
  pub transit : ℕ → ℕ → List Message
  pub waiting : ℕ → ℕ → List Message

-- a number is a bound at a moment
abbrev pub Bounds : Parts → ℕ → Moment → Type 0
Bounds p bound a = AreBounded p bound a.all a.transit a.waiting

-- another value at one place
abbrev pub with_one : {X : Type 0} → (ℕ → X) → ℕ → X → ℕ → X
with_one f i x k = if k == i then x else f k

-- and at one pair
abbrev pub with_pair : (ℕ → ℕ → List Message) → ℕ → ℕ → List Message → ℕ → ℕ → List Message
with_pair f i j xs = with_one f i (with_one (f i) j xs)

-- a progress of these parts
abbrev pub progress : Option (List Block) → Bool → List Message → Standing
progress done waits received = record { done = done; waits = waits; received = received }

-- nobody has started
abbrev pub opening : Moment
opening = record { all = λ i. progress None false []; transit = λ i j. []; waiting = λ i j. [] }

-- federate i has started, and what it sent waits
abbrev pub after_start : Parts → Moment → ℕ → Moment
after_start p a i = record {
  all = with_one a.all i (progress (Some []) true (a.all i).received);
  transit = a.transit;
  waiting = with_one a.waiting i (λ j. filter (is_transported_to p j) (seat_at_start p i).state.sends);
}

-- what waited between these was posted by i to j
abbrev pub after_post : Moment → ℕ → ℕ → List Message → Message → List Message → Moment
after_post a i j before m after = record { all = a.all; transit = with_pair a.transit i j (a.transit i j ++ m ∷ []); waiting = with_pair a.waiting i j (before ++ after) }

-- what was in transit between these was received by j from i
abbrev pub after_receipt : Moment → ℕ → ℕ → List Message → Message → List Message → Moment
after_receipt a i j before m after = record {
  all = with_one a.all j (progress (a.all j).done (a.all j).waits ((a.all j).received ++ m ∷ []));
  transit = with_pair a.transit i j (before ++ after);
  waiting = a.waiting;
}

-- nothing of federate i waits
abbrev pub after_last_post : Moment → ℕ → Moment
after_last_post a i = record { all = with_one a.all i (progress (a.all i).done false (a.all i).received); transit = a.transit; waiting = a.waiting }

-- the block that federate i may be granted next
abbrev pub due_block : Parts → ℕ → List Message → List Block → Block
due_block p i received done =
    let s = seat_after p i done in
    block i (seat_due p received i s) (due_messages p i (seat_due p received i s) s.got received)

-- federate i was granted it, and what it sent waits
abbrev pub after_grant : Parts → Moment → ℕ → List Block → Moment
after_grant p a i done =
    let s = seat_after p i done in
    let b = due_block p i (a.all i).received done in
    record {
      all = with_one a.all i (progress (Some (done ++ b ∷ [])) true (a.all i).received);
      transit = a.transit;
      waiting = with_one a.waiting i (λ j. filter (is_transported_to p j) (drop (length s.state.sends) (seat_with p i b s).state.sends));
    }

-- a step of one federate. It is granted a time only below a number that is a bound at that moment.
pub data Step (p : Parts) : Moment → Moment → Type 0 where
  starts : (a : Moment) (i : ℕ) → i < length p.federates → (a.all i).done ≡ None → Step p a (after_start p a i)
  posts : (a : Moment) (i j : ℕ) (before : List Message) (m : Message) (after : List Message) → i < length p.federates → j < length p.federates → a.waiting i j ≡ before ++ m ∷ after → Step p a (after_post a i j before m after)
  receives : (a : Moment) (i j : ℕ) (before : List Message) (m : Message) (after : List Message) → i < length p.federates → j < length p.federates → a.transit i j ≡ before ++ m ∷ after → Step p a (after_receipt a i j before m after)
  settles : (a : Moment) (i : ℕ) → i < length p.federates → ((j : ℕ) → j < length p.federates → a.waiting i j ≡ []) → Step p a (after_last_post a i)
  grants : (a : Moment) (i : ℕ) (done : List Block) (known : ℕ) → i < length p.federates → (a.all i).done ≡ Some done → (a.all i).waits ≡ false → (seat_after p i done).now < p.end
      → Bounds p known a → seat_due p (a.all i).received i (seat_after p i done) < known → Step p a (after_grant p a i done)

-- steps one after another
pub data Flow (p : Parts) : Moment → Moment → Type 0 where
  still : (a : Moment) → Flow p a a
  goes : (a b c : Moment) → Step p a b → Flow p b c → Flow p a c

-- a bound stays a bound
abbrev pub FlowsKeepBounds : Type 0
FlowsKeepBounds = (p : Parts) → IsFederation p → (a b : Moment) → Flow p opening a → Flow p a b → (bound : ℕ) → Bounds p bound a → Bounds p bound b

-- all that a federate does on the way is the beginning of its part, and 1 is a bound
abbrev pub FlowsAgree : Type 0
FlowsAgree = (p : Parts) → IsFederation p → (a : Moment) → Flow p opening a → Bounds p 1 a

-- what a federate receives after a grant is timed later
pub record Later (received : List Message) (now : ℕ) (longer : List Message) : Type 0 where
  pub more : List Message
  pub split : longer ≡ received ++ more
  pub late : All (λ (m : Message). now < m.time) more

abbrev pub FlowsAreLawful : Type 0
FlowsAreLawful = (p : Parts) → IsFederation p → (a b : Moment) → Flow p opening a → Flow p a b → (i : ℕ) → i < length p.federates → (done : List Block) → (a.all i).done ≡ Some done
    → Later (a.all i).received (seat_after p i done).now (b.all i).received

-- and a federate that was granted the end has made its whole part
abbrev pub EndsAgree : Type 0
EndsAgree = (p : Parts) → IsFederation p → (a : Moment) → Flow p opening a → (i : ℕ) → i < length p.federates → (done : List Block) → (a.all i).done ≡ Some done → p.end ≤ (seat_after p i done).now → done ≡ part p i

-- these blocks, or none where there are none
abbrev pub blocks_done : Option (List Block) → List Block
blocks_done None = []
blocks_done (Some done) = done

-- what a federate has done
abbrev pub done_by : Standing → List Block
done_by q = blocks_done q.done

-- once each federate was granted the end, the merge of what they did and the variables that this left make the text of the simulation
abbrev pub EndsMakeTheText : Type 0
EndsMakeTheText = (p : Parts) → IsFederation p → (a : Moment) → Flow p opening a → ((i : ℕ) → i < length p.federates → (done : List Block) × ((a.all i).done ≡ Some done) × (p.end ≤ (seat_after p i done).now))
    → (blocks : List Block) → IsMerge (map (λ i. done_by (a.all i)) (range_with_len 0 (length p.federates))) blocks
    → history_text p (lines_of blocks) (map (λ i. (seat_after p i (done_by (a.all i))).state.vars) (range_with_len 0 (length p.federates))) ≡ simulation_text p
