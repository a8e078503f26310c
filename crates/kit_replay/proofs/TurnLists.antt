-- What one turn more is to the lists of turns and steps.
use Rattle.std.proofs.Common.{◌≡◌, ◌≢◌, ℕ, ◌<◌, ◌≤◌, ◌==◌, nat_lt, true, false, List, [], ◌∷◌, ◌++◌, length, map, filter, replicate, refl, sym, ap, ◌∙◌, arith, append_assoc, eq-eqb}
use Rattle.std.proofs.lemmas.Bool.{lt-ltb, le-ltb, ne_eqb}
use Rattle.std.proofs.lemmas.List.{map-append, append-nil}
use Rattle.std.proofs.lemmas.Grind.{flat_map-append}
use Rattle.std.proofs.lemmas.List.Elements.{All-append, All-cons, All-nil, filter-append}
use Rattle.kit_replay.specs.Schedules.{GivenTurn, StepsUntil, entries_below, is_below, is_turn_of, steps_in, steps_of, turns_of, whose}

abbrev pub turn_of : ℕ → ℕ → GivenTurn
turn_of i n = record { federate = i; steps = n }

-- ---- entries
pub entry_there : (n i : ℕ) (taken : List ℕ) → i < n → entries_below n (taken ++ i ∷ []) ≡ entries_below n taken ++ i ∷ []
entry_there n i taken lt = filter-append (is_below n) taken (i ∷ []) ∙ ap (λ (l : List ℕ). entries_below n taken ++ l) (let e : nat_lt i n ≡ true = lt-ltb i n lt in rw e refl)

pub entry_nowhere : (n i : ℕ) (taken : List ℕ) → n ≤ i → entries_below n (taken ++ i ∷ []) ≡ entries_below n taken
entry_nowhere n i taken le = filter-append (is_below n) taken (i ∷ []) ∙ (ap (λ (l : List ℕ). entries_below n taken ++ l) (let e : nat_lt i n ≡ false = le-ltb i n le in rw e refl) ∙ append-nil _)

-- ---- turns
pub given_more : (given : List GivenTurn) (i n : ℕ) → map whose (given ++ turn_of i n ∷ []) ≡ map whose given ++ i ∷ []
given_more given i n = map-append whose given (turn_of i n ∷ [])

pub turns_more : (given : List GivenTurn) (i n : ℕ) → turns_of i (given ++ turn_of i n ∷ []) ≡ turns_of i given ++ n ∷ []
turns_more given i n =
    ap (map (λ (g : GivenTurn). g.steps)) (filter-append (is_turn_of i) given (turn_of i n ∷ []))
    ∙ (map-append (λ (g : GivenTurn). g.steps) (filter (is_turn_of i) given) (filter (is_turn_of i) (turn_of i n ∷ []))
    ∙ ap (λ (l : List ℕ). turns_of i given ++ l) (let e : (i == i) ≡ true = eq-eqb i i refl in rw e refl))

pub turns_same : (given : List GivenTurn) (i k n : ℕ) → k ≢ i → turns_of k (given ++ turn_of i n ∷ []) ≡ turns_of k given
turns_same given i k n other =
    ap (map (λ (g : GivenTurn). g.steps)) (filter-append (is_turn_of k) given (turn_of i n ∷ []))
    ∙ (map-append (λ (g : GivenTurn). g.steps) (filter (is_turn_of k) given) (filter (is_turn_of k) (turn_of i n ∷ []))
    ∙ (ap (λ (l : List ℕ). turns_of k given ++ l) (let e : (i == k) ≡ false = ne_eqb i k (λ same. other (sym same)) in rw e refl) ∙ append-nil _))

pub steps_more : (given : List GivenTurn) (i n : ℕ) → steps_of (given ++ turn_of i n ∷ []) ≡ steps_of given ++ replicate n i
steps_more given i n = flat_map-append steps_in given (turn_of i n ∷ []) ∙ ap (λ (l : List ℕ). steps_of given ++ l) (append-nil _)

-- ---- the steps of a federate's turns
pub no_turns_yet : {X : Type 0} → StepsUntil X []
no_turns_yet = record { before = []; after = []; split = refl; some = All-nil _; none = All-nil _; end = λ not. absurd (not refl) }

-- while it goes on, each turn has a step
none_after : {X : Type 0} (after : List ℕ) → (X → ⊥) → (after ≢ [] → X) → after ≡ []
none_after [] goes_on end = refl
none_after (x ∷ xs) goes_on end = absurd (goes_on (end (λ e. let l = ap length e in omega arith)))

pub step_more : {X Y : Type 0} (turns : List ℕ) (n : ℕ) → StepsUntil X turns → (X → ⊥) → 0 < n → StepsUntil Y (turns ++ n ∷ [])
step_more turns n s goes_on lt =
    let all : turns ≡ s.before = s.split ∙ (ap (λ (l : List ℕ). s.before ++ l) (none_after s.after goes_on s.end) ∙ append-nil _) in record {
      before = s.before ++ n ∷ [];
      after = [];
      split = ap (λ (l : List ℕ). l ++ n ∷ []) all ∙ sym (append-nil _);
      some = All-append (λ (k : ℕ). 0 < k) s.before (n ∷ []) s.some (All-cons (λ (k : ℕ). 0 < k) n [] lt (All-nil _));
      none = All-nil _;
      end = λ not. absurd (not refl);
    }

-- once it has ended, none has
pub no_step_more : {X Y : Type 0} (turns : List ℕ) (n : ℕ) → StepsUntil X turns → Y → n ≡ 0 → StepsUntil Y (turns ++ n ∷ [])
no_step_more turns n s ended is = record {
  before = s.before;
  after = s.after ++ n ∷ [];
  split = ap (λ (l : List ℕ). l ++ n ∷ []) s.split ∙ append_assoc s.before s.after (n ∷ []);
  some = s.some;
  none = All-append (λ (k : ℕ). k ≡ 0) s.after (n ∷ []) s.none (All-cons (λ (k : ℕ). k ≡ 0) n [] is (All-nil _));
  end = λ _. ended;
}

pub steps_end : {X Y : Type 0} (turns : List ℕ) → StepsUntil X turns → (X → Y) → StepsUntil Y turns
steps_end turns s f = record { before = s.before; after = s.after; split = s.split; some = s.some; none = s.none; end = λ not. f (s.end not) }
