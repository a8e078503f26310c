-- A state that keeps, of its sends, the Events that may still be taken back, each at its place: each number names the same in it.
use Rattle.std.proofs.Common.{◌≡◌, ℕ, zero, suc, inl, inr, Bool, true, false, cond, not, ◌&&◌, ◌||◌, ◌+◌, ◌-◌, ◌<◌, ◌≤◌, List, [], ◌∷◌, length, map, filter, fold, find, get_or, set, nat_eq, nat_le, Some, None, arith, refl, sym, subst, ap, ◌∙◌, length-set}
use Rattle.std.specs.List.{AllByRecursion, list_any, range_with_len}
use Rattle.std.specs.Option.{option_map, option_or}
use Rattle.std.proofs.lemmas.Bool.{cases_eq, and_parts, eqb-true, lt-leb}
use Rattle.std.proofs.lemmas.Bool.Decides.{eqb_tells, leb_tells}
use Rattle.std.proofs.lemmas.List.{get_or-set_other, get_or-set_same}
use Rattle.std.proofs.lemmas.List.FromFn.{get_or-map-range_with_len, length-map-range_with_len}
use Rattle.kit_base.specs.declared.message.Message.{Message}
use Rattle.kit_base.proofs.Lists.{all_filter, each_weaker}
use Rattle.kit_rules.specs.Parts.{Parts, effective_lookahead}
use Rattle.kit_rules.specs.Federation.{IsFederation}
use Rattle.kit_rules.specs.declared.scene.Scene.{Scene}
use Rattle.kit_rules.specs.declared.scene.State.{State}
use Rattle.kit_rules.specs.Step.{is_event, takes_back, no_message}
use Rattle.kit_rules.proofs.Backs.{Aimed, Aims, Under}
use Rattle.kit_rules.proofs.Growth.{AreNumbered}
use Rattle.kit_rules.proofs.Lookaheads.{lookahead_is_positive}
use Rattle.kit_rules.proofs.TakenBack.{find_at, find_none}
use Rattle.kit_rules.specs.declared.own.Own.{Own}
use Rattle.kit_rules.specs.Own.{is_untaken, own_of, own_events, own_message, past_message, restored_sends, restored_state, IsNumberedBelow}
use Rattle.kit_cut.specs.Reach.{is_in_reach}
use Rattle.kit_cut.proofs.Alike.{targets, Suits, Closed, Same, or_none}
use Rattle.kit_cut.proofs.Pairwise.{Pairwise, pairs_filter, all_map, both_all, Lower, numbers_rise, LowerOwn, own_rises}

-- the messages of what is kept of some of the sends
abbrev kept : Parts → ℕ → ℕ → List Message → List Message → List Message
kept p i now sends xs = map (own_message i) (filter (is_in_reach p i now) (map own_of (filter (is_untaken sends) xs)))

and_false : (b : Bool) → (b && false) ≡ false
and_false true = refl
and_false false = refl

-- a target is an Event that is not taken back, in reach, and named
is_kept_target : (e a r k l m back : Bool) → (m ≡ true → r ≡ true) → (k ≡ true → a ≡ back)
    → (e && k && l && m && not back) ≡ ((e && not a) && (r && l) && (true && k && l && m && true))
is_kept_target false a r k l m back f g = refl
is_kept_target true a r false l m back f g = sym (and_false (not a && (r && l)))
is_kept_target true a r true false m back f g = sym (and_false (not a && (r && false)))
is_kept_target true a r true true false back f g = sym (and_false (not a && (r && true)))
is_kept_target true a r true true true back f g =
    sym (ap (λ x. (not x && (r && true)) && true) (g refl) ∙ ap (λ x. (not back && (x && true)) && true) (f refl) ∙ alone (not back))
  where
    alone : (b : Bool) → ((b && true) && true) ≡ b
    alone true = refl
    alone false = refl

target_is : (p : Parts) (i now n : ℕ) (sc : Scene) (sends : List Message) (m : Message) → Suits (effective_lookahead p i) p.end now sc
    → targets sc n (list_any (takes_back n) sends) m ≡ (is_untaken sends m && is_in_reach p i now (own_of m) && targets sc n false (own_message i (own_of m)))
target_is p i now n sc sends m su =
    let whole : Bool → Bool = λ l. (is_event m.kind && not (list_any (takes_back m.number) sends)) && (nat_le (now + effective_lookahead p i) m.time && l) && targets sc n false (own_message i (own_of m)) in
    is_kept_target (is_event m.kind) (list_any (takes_back m.number) sends) (nat_le (now + effective_lookahead p i) m.time) (nat_eq m.number n) (nat_le m.time sc.end) (nat_le (sc.time + sc.lookahead) m.time) (list_any (takes_back n) sends) reach number
    ∙ ap (λ (e : ℕ). whole (nat_le m.time e)) su.ends
  where
    reach : nat_le (sc.time + sc.lookahead) m.time ≡ true → nat_le (now + effective_lookahead p i) m.time ≡ true
    reach h =
        elim (leb_tells (sc.time + sc.lookahead) m.time) [
          | inl le ↦ elim (leb_tells (now + effective_lookahead p i) m.time) [
            | inl far ↦ far.0
            | inr near ↦ absurd (let a : sc.time + sc.lookahead ≤ m.time = le.1 in let b : m.time < now + effective_lookahead p i = near.1 in let c : sc.lookahead ≡ effective_lookahead p i = su.looks in let d : now ≤ sc.time = su.late in omega arith)
          ]
          | inr gt ↦ absurd (let x = gt.0 in cc)
        ]

    number : nat_eq m.number n ≡ true → list_any (takes_back m.number) sends ≡ list_any (takes_back n) sends
    number h = elim (eqb_tells m.number n) [ inl is ↦ ap (λ (k : ℕ). list_any (takes_back k) sends) is.1 | inr ne ↦ absurd (let x = ne.0 in cc) ]

-- so the first target is the same
first_kept : (p : Parts) (i now n : ℕ) (sc : Scene) (sends xs : List Message) → Suits (effective_lookahead p i) p.end now sc
    → option_map own_of (find (targets sc n (list_any (takes_back n) sends)) xs) ≡ option_map own_of (find (targets sc n false) (kept p i now sends xs))
first_kept p i now n sc sends [] su = refl
first_kept p i now n sc sends (m ∷ ms) su =
    by_tests (is_untaken sends m) (is_in_reach p i now (own_of m)) (targets sc n false (own_message i (own_of m))) refl refl refl (target_is p i now n sc sends m su) (first_kept p i now n sc sends ms su)
  where
    by_tests : (u r t : Bool) → is_untaken sends m ≡ u → is_in_reach p i now (own_of m) ≡ r → targets sc n false (own_message i (own_of m)) ≡ t
        → targets sc n (list_any (takes_back n) sends) m ≡ (is_untaken sends m && is_in_reach p i now (own_of m) && targets sc n false (own_message i (own_of m)))
        → option_map own_of (find (targets sc n (list_any (takes_back n) sends)) ms) ≡ option_map own_of (find (targets sc n false) (kept p i now sends ms))
        → option_map own_of (find (targets sc n (list_any (takes_back n) sends)) (m ∷ ms)) ≡ option_map own_of (find (targets sc n false) (kept p i now sends (m ∷ ms)))
    by_tests false r t eu er et is rest =
        let T = targets sc n (list_any (takes_back n) sends) in
        let back : List Message → List Message = λ xs. map (own_message i) (filter (is_in_reach p i now) (map own_of xs)) in
        let F = filter (is_untaken sends) ms in
        let no : T m ≡ false = is ∙ ap (λ b. b && is_in_reach p i now (own_of m) && targets sc n false (own_message i (own_of m))) eu in
        ap (λ b. option_map own_of (cond b (Some m) (find T ms))) no ∙ rest ∙ sym (ap (λ b. option_map own_of (find (targets sc n false) (back (cond b (m ∷ F) F)))) eu)
    by_tests true false t eu er et is rest =
        let T = targets sc n (list_any (takes_back n) sends) in
        let back : List Message → List Message = λ xs. map (own_message i) (filter (is_in_reach p i now) (map own_of xs)) in
        let F = filter (is_untaken sends) ms in
        let G = filter (is_in_reach p i now) (map own_of F) in
        let no : T m ≡ false = is ∙ ap (λ b. b && is_in_reach p i now (own_of m) && targets sc n false (own_message i (own_of m))) eu ∙ ap (λ b. b && targets sc n false (own_message i (own_of m))) er in
        ap (λ b. option_map own_of (cond b (Some m) (find T ms))) no ∙ rest
        ∙ sym (ap (λ b. option_map own_of (find (targets sc n false) (back (cond b (m ∷ F) F)))) eu ∙ ap (λ b. option_map own_of (find (targets sc n false) (map (own_message i) (cond b (own_of m ∷ G) G)))) er)
    by_tests true true t eu er et is rest =
        let T = targets sc n (list_any (takes_back n) sends) in
        let U = targets sc n false in
        let back : List Message → List Message = λ xs. map (own_message i) (filter (is_in_reach p i now) (map own_of xs)) in
        let F = filter (is_untaken sends) ms in
        let G = filter (is_in_reach p i now) (map own_of F) in
        let o = own_message i (own_of m) in
        let same : T m ≡ U o = is ∙ ap (λ b. b && is_in_reach p i now (own_of m) && U o) eu ∙ ap (λ b. b && U o) er in
        ap (λ b. option_map own_of (cond b (Some m) (find T ms))) same ∙ both (U o)
        ∙ sym (ap (λ b. option_map own_of (find U (back (cond b (m ∷ F) F)))) eu ∙ ap (λ b. option_map own_of (find U (map (own_message i) (cond b (own_of m ∷ G) G)))) er)
      where
        both : (b : Bool) → option_map own_of (cond b (Some m) (find (targets sc n (list_any (takes_back n) sends)) ms)) ≡ option_map own_of (cond b (Some (own_message i (own_of m))) (find (targets sc n false) (kept p i now sends ms)))
        both true = refl
        both false = rest

-- the messages stand at the places of their numbers
abbrev Placed : List Message → Type 0
Placed ms = (k : ℕ) → k < length ms → (get_or ms k no_message).number ≡ k + 1

-- these Events are put in their places
abbrev put_own : ℕ → List Message → List Own → List Message
put_own i sends own = fold (λ sends (o : Own). set sends (o.number - 1) (own_message i o)) sends own

-- an Event put in its place leaves each at its place
placed_set : (ms : List Message) (k : ℕ) (m : Message) → m.number ≡ k + 1 → Placed ms → Placed (set ms k m)
placed_set ms k m is h j lt =
    let below : j < length ms = omega (arith, length-set ms k m) in
    elim (cases_eq j k) [
      | inl e ↦ (let Q : ℕ → Type 0 = λ j. (get_or (set ms k m) j no_message).number ≡ j + 1 in
          let inside : k < length ms = omega arith in
          subst Q (sym e) (ap (λ (x : Message). x.number) (get_or-set_same ms k m no_message inside) ∙ is))
      | inr ne ↦ ap (λ (x : Message). x.number) (get_or-set_other ms k j m no_message ne) ∙ h j below
    ]

not_true : (b : Bool) → (b ≡ true → ⊥) → b ≡ false
not_true true f = absurd (f refl)
not_true false f = refl

-- where neither the old nor the new one passes, the same is found
find_set_other : (test : Message → Bool) (ms : List Message) (k : ℕ) (m : Message) → test (get_or ms k no_message) ≡ false → test m ≡ false → find test (set ms k m) ≡ find test ms
find_set_other test [] k m a b = refl
find_set_other test (x ∷ xs) zero m a b = ap (λ c. cond c (Some m) (find test xs)) b ∙ sym (ap (λ c. cond c (Some x) (find test xs)) a)
find_set_other test (x ∷ xs) (suc k) m a b = ap (λ o. cond (test x) (Some x) o) (find_set_other test xs k m a b)

-- where a number is tested, the one at its place is found
find_set_here : (test : Message → Bool) (n : ℕ) (ms : List Message) (k : ℕ) (m : Message) → k < length ms → Placed ms → m.number ≡ k + 1 → ((x : Message) → test x ≡ true → x.number ≡ n) → test m ≡ true
    → find test (set ms k m) ≡ Some m
find_set_here test n ms k m lt h is tests passes =
    let here : get_or (set ms k m) k no_message ≡ m = get_or-set_same ms k m no_message lt in
    find_at test (set ms k m) k no_message (omega (arith, length-set ms k m)) others
    ∙ ap (λ x. cond (test x) (Some x) None) here ∙ ap (λ b. cond b (Some m) None) passes
  where
    others : (j : ℕ) → j < length (set ms k m) → (j ≡ k → ⊥) → test (get_or (set ms k m) j no_message) ≡ false
    others j inside ne = not_true _ (λ t.
        let a : (get_or (set ms k m) j no_message).number ≡ n = tests _ t in
        let b : m.number ≡ n = tests m passes in
        let c : (get_or (set ms k m) j no_message).number ≡ j + 1 = placed_set ms k m is h j inside in
        ne (omega (arith, is)))

-- what an own Event needs that is put in its place: there is the place, and what stands there is not found
record HasPlace (test : Message → Bool) (sends : List Message) (o : Own) : Type 0 where
  low : 1 ≤ o.number
  high : o.number ≤ length sends
  free : test (get_or sends (o.number - 1) no_message) ≡ false

-- none is found of those with other numbers
none_of : (test : Message → Bool) (n i : ℕ) (own : List Own) → ((x : Message) → test x ≡ true → x.number ≡ n) → AllByRecursion (λ (o : Own). n < o.number) own → find test (map (own_message i) own) ≡ None
none_of test n i [] tests h = refl
none_of test n i (o ∷ os) tests h =
    let no : test (own_message i o) ≡ false = not_true _ (λ t. let is : o.number ≡ n = tests (own_message i o) t in let lt : n < o.number = h.0 in omega arith) in
    ap (λ b. cond b (Some (own_message i o)) (find test (map (own_message i) os))) no ∙ none_of test n i os tests h.1

-- so among Events put in their places the same is found as among the Events, and what was there
found_put : (test : Message → Bool) (n i : ℕ) (own : List Own) (sends : List Message) → ((x : Message) → test x ≡ true → x.number ≡ n) → Placed sends → Pairwise LowerOwn own → AllByRecursion (HasPlace test sends) own
    → find test (put_own i sends own) ≡ option_or (find test (map (own_message i) own)) (find test sends)
found_put test n i [] sends tests placed rise has = refl
found_put test n i (o ∷ os) sends tests placed rise has =
    let m = own_message i o in
    let k = o.number - 1 in
    let here = has.0 in
    let is : m.number ≡ k + 1 = omega (arith, here.low) in
    let lt : k < length sends = omega (arith, here.low, here.high) in
    let next = set sends k m in
    let left : AllByRecursion (HasPlace test next) os = rest os rise.0 has.1 in
    found_put test n i os next tests (placed_set sends k m is placed) rise.1 left
    ∙ by_test (test m) refl is lt
  where
    rest : (xs : List Own) → AllByRecursion (LowerOwn o) xs → AllByRecursion (HasPlace test sends) xs → AllByRecursion (HasPlace test (set sends (o.number - 1) (own_message i o))) xs
    rest [] up h = tt
    rest (x ∷ xs) up h =
        let above : o.number < x.number = up.0 in
        let len = length-set sends (o.number - 1) (own_message i o) in (
          record {
            low = h.0.low;
            high = omega (arith, h.0.high, len);
            free = ap test (get_or-set_other sends (o.number - 1) (x.number - 1) (own_message i o) no_message (λ e. let low : 1 ≤ o.number = has.0.low in omega arith)) ∙ h.0.free;
          },
          rest xs up.1 h.1,
        )

    by_test : (b : Bool) → test (own_message i o) ≡ b → (own_message i o).number ≡ (o.number - 1) + 1 → o.number - 1 < length sends
        → option_or (find test (map (own_message i) os)) (find test (set sends (o.number - 1) (own_message i o))) ≡ option_or (find test (map (own_message i) (o ∷ os))) (find test sends)
    by_test true e is lt =
        let m = own_message i o in
        let n_is : m.number ≡ n = tests m e in
        let P : ℕ → Type 0 = λ n. AllByRecursion (λ (x : Own). n < x.number) os in
        let none : find test (map (own_message i) os) ≡ None = none_of test n i os tests (subst P n_is rise.0) in
        let found : find test (set sends (o.number - 1) m) ≡ Some m = find_set_here test n sends (o.number - 1) m lt placed is tests e in
        ap (λ a. option_or a (find test (set sends (o.number - 1) m))) none ∙ found
        ∙ sym (ap (λ b. option_or (cond b (Some m) (find test (map (own_message i) os))) (find test sends)) e)
    by_test false e is lt =
        let m = own_message i o in
        ap (option_or (find test (map (own_message i) os))) (find_set_other test sends (o.number - 1) m has.0.free e)
        ∙ sym (ap (λ b. option_or (cond b (Some m) (find test (map (own_message i) os))) (find test sends)) e)

-- Events that stand for sends with the numbers from a on
abbrev spare : ℕ → ℕ → ℕ → List Message
spare i a n = map (past_message i) (range_with_len a n)

-- they are timed 0
spare_times : (i a n : ℕ) → AllByRecursion (λ (m : Message). m.time ≡ 0) (spare i a n)
spare_times i a zero = tt
spare_times i a (suc n) = (refl, spare_times i (a + 1) n)

time_at : (ms : List Message) (k : ℕ) → AllByRecursion (λ (m : Message). m.time ≡ 0) ms → (get_or ms k no_message).time ≡ 0
time_at [] k h = refl
time_at (m ∷ ms) zero h = h.0
time_at (m ∷ ms) (suc k) h = time_at ms k h.1

-- and stand at the places of their numbers
spare_placed : (i n : ℕ) → Placed (spare i 1 n)
spare_placed i n k lt =
    let below : k < n = omega (arith, length-map-range_with_len (past_message i) 1 n) in
    ap (λ (m : Message). m.number) (get_or-map-range_with_len (past_message i) 1 n k (k + 1) no_message below (omega arith))

-- nothing timed 0 is a target
early_fails : (sc : Scene) (n : ℕ) (m : Message) → 1 ≤ sc.lookahead → m.time ≡ 0 → targets sc n false m ≡ false
early_fails sc n m la is =
    let late : nat_le (sc.time + sc.lookahead) m.time ≡ false = lt-leb (sc.time + sc.lookahead) m.time (omega arith) in
    ap (λ b. is_event m.kind && nat_eq m.number n && nat_le m.time sc.end && b && true) late ∙ never (is_event m.kind) (nat_eq m.number n) (nat_le m.time sc.end)
  where
    never : (a b c : Bool) → (a && b && c && false && true) ≡ false
    never true true true = refl
    never true true false = refl
    never true false c = refl
    never false b c = refl

-- a target has the number
target_number : (sc : Scene) (n : ℕ) (m : Message) → targets sc n false m ≡ true → m.number ≡ n
target_number sc n m h = eqb-true m.number n (and_parts _ _ (and_parts _ _ (and_parts _ _ (and_parts (is_event m.kind && nat_eq m.number n && nat_le m.time sc.end && nat_le (sc.time + sc.lookahead) m.time) _ h).0).0).0).1

-- what holds of all and of a new one holds when it is set
all_set : (P : Message → Type 0) (ms : List Message) (k : ℕ) (m : Message) → P m → AllByRecursion P ms → AllByRecursion P (set ms k m)
all_set P [] k m here h = tt
all_set P (x ∷ xs) zero m here h = (here, h.1)
all_set P (x ∷ xs) (suc k) m here h = (h.0, all_set P xs k m here h.1)

all_put_own : (P : Message → Type 0) (i : ℕ) (own : List Own) (sends : List Message) → AllByRecursion (λ o. P (own_message i o)) own → AllByRecursion P sends → AllByRecursion P (put_own i sends own)
all_put_own P i [] sends a h = h
all_put_own P i (o ∷ os) sends a h = all_put_own P i os (set sends (o.number - 1) (own_message i o)) a.1 (all_set P sends (o.number - 1) (own_message i o) a.0 h)

-- an Event with a number below the next
abbrev pub EventBelow : ℕ → Message → Type 0
EventBelow next m = (m.number < next) × (is_event m.kind ≡ true)

spare_below : (next i a n : ℕ) → a + n ≤ next → AllByRecursion (EventBelow next) (spare i a n)
spare_below next i a zero le = tt
spare_below next i a (suc n) le = ((omega arith, refl), spare_below next i (a + 1) n (omega arith))

-- Events take nothing back
no_takes : (next n : ℕ) (ms : List Message) → AllByRecursion (EventBelow next) ms → list_any (takes_back n) ms ≡ false
no_takes next n [] h = refl
no_takes next n (m ∷ ms) h = ap (λ b. (not b && nat_eq m.value n) || list_any (takes_back n) ms) h.0.1 ∙ no_takes next n ms h.1

-- numbers below the next, with those that are named
closed_of_aimed : (next : ℕ) (sends xs : List Message) → AllByRecursion (Under next) xs → AllByRecursion (Aims sends) xs → AllByRecursion (Closed next) xs
closed_of_aimed next sends [] u a = tt
closed_of_aimed next sends (x ∷ xs) u a = ((u.0, λ e. let lt : x.value < x.number = (a.0 e).1 in let under : x.number < next = u.0 in omega arith), closed_of_aimed next sends xs u.1 a.1)

-- own sends are numbered from 1
low_numbers : (i n : ℕ) (ms : List Message) → 1 ≤ n → AreNumbered i n ms → AllByRecursion (λ (m : Message). 1 ≤ m.number) ms
low_numbers i n [] low num = tt
low_numbers i n (m ∷ ms) low num = ((let is : m.number ≡ n = num.1 in omega arith), low_numbers i (n + 1) ms (omega arith) num.2)

-- restored sends are Events below the next number
pub restored_events : (i next : ℕ) (own : List Own) → 1 ≤ next → AllByRecursion (IsNumberedBelow next) own → AllByRecursion (EventBelow next) (restored_sends i next own)
restored_events i next own low numbers =
    all_put_own (EventBelow next) i own (spare i 1 (next - 1)) (each_weaker (IsNumberedBelow next) (λ o. EventBelow next (own_message i o)) own (λ o q. (q.1, refl)) numbers) (spare_below next i 1 (next - 1) (omega arith))

-- and numbered from 1 on
numbered_set : (i n : ℕ) (ms : List Message) (k : ℕ) (m : Message) → m.sender ≡ i → m.number ≡ n + k → AreNumbered i n ms → AreNumbered i n (set ms k m)
numbered_set i n [] k m is at h = tt
numbered_set i n (x ∷ xs) zero m is at h = (is, omega arith, h.2)
numbered_set i n (x ∷ xs) (suc k) m is at h = (h.0, h.1, numbered_set i (n + 1) xs k m is (omega arith) h.2)

numbered_put : (i next : ℕ) (own : List Own) (sends : List Message) → AllByRecursion (IsNumberedBelow next) own → AreNumbered i 1 sends → AreNumbered i 1 (put_own i sends own)
numbered_put i next [] sends numbers h = h
numbered_put i next (o ∷ os) sends numbers h =
    numbered_put i next os (set sends (o.number - 1) (own_message i o)) numbers.1 (numbered_set i 1 sends (o.number - 1) (own_message i o) refl (omega (arith, numbers.0.0)) h)

spare_numbered : (i a n : ℕ) → AreNumbered i a (spare i a n)
spare_numbered i a zero = tt
spare_numbered i a (suc n) = (refl, refl, spare_numbered i (a + 1) n)

pub restored_numbered : (i next : ℕ) (own : List Own) → AllByRecursion (IsNumberedBelow next) own → AreNumbered i 1 (restored_sends i next own)
restored_numbered i next own numbers = numbered_put i next own (spare i 1 (next - 1)) numbers (spare_numbered i 1 (next - 1))

-- they are as many as there are numbers
length_put : (i : ℕ) (own : List Own) (sends : List Message) → length (put_own i sends own) ≡ length sends
length_put i [] sends = refl
length_put i (o ∷ os) sends = length_put i os (set sends (o.number - 1) (own_message i o)) ∙ length-set sends (o.number - 1) (own_message i o)

pub restored_count : (i next : ℕ) (own : List Own) → 1 ≤ next → next ≡ 1 + length (restored_sends i next own)
restored_count i next own low = omega (arith, length_put i own (spare i 1 (next - 1)), length-map-range_with_len (past_message i) 1 (next - 1))

-- among them the same is found as among the own Events
found_restored : (p : Parts) (i next : ℕ) (own : List Own) (sc : Scene) (n : ℕ) → IsFederation p → AllByRecursion (IsNumberedBelow next) own → Pairwise LowerOwn own → sc.lookahead ≡ effective_lookahead p i
    → find (targets sc n false) (restored_sends i next own) ≡ find (targets sc n false) (map (own_message i) own)
found_restored p i next own sc n f numbers rise looks =
    let test = targets sc n false in
    let spares = spare i 1 (next - 1) in
    let la : 1 ≤ sc.lookahead = omega (arith, looks, lookahead_is_positive p i f) in
    let fails : (k : ℕ) → test (get_or spares k no_message) ≡ false = λ k. early_fails sc n (get_or spares k no_message) la (time_at spares k (spare_times i 1 (next - 1))) in
    let has : AllByRecursion (HasPlace test spares) own = each_weaker (IsNumberedBelow next) (HasPlace test spares) own
    (λ o q. record { low = q.0; high = omega (arith, q.1, length-map-range_with_len (past_message i) 1 (next - 1)); free = fails (o.number - 1) }) numbers in
    let none : find test spares ≡ None = find_none test spares no_message (λ k lt. fails k) in
    found_put test n i own spares (target_number sc n) (spare_placed i (next - 1)) rise has ∙ ap (option_or (find test (map (own_message i) own))) none ∙ or_none (find test (map (own_message i) own))

-- own Events as messages are below the next number
own_below : (i next : ℕ) (own : List Own) → AllByRecursion (IsNumberedBelow next) own → AllByRecursion (EventBelow next) (map (own_message i) own)
own_below i next own numbers = all_map (IsNumberedBelow next) (EventBelow next) (own_message i) own (λ o q. (q.1, refl)) numbers

closed_events : (next : ℕ) (ms : List Message) → AllByRecursion (EventBelow next) ms → AllByRecursion (Closed next) ms
closed_events next ms h = each_weaker (EventBelow next) (Closed next) ms (λ m e. (e.0, λ no. absurd (let passes : is_event m.kind ≡ true = e.1 in cc))) h

-- so each number names the same in restored sends as in the own Events alone
pub restored_same : (p : Parts) (i next : ℕ) (own : List Own) → IsFederation p → 1 ≤ next → AllByRecursion (IsNumberedBelow next) own → Pairwise LowerOwn own
    → Same (effective_lookahead p i) p.end 0 next (restored_sends i next own) (map (own_message i) own)
restored_same p i next own f low numbers rise =
    let restored = restored_sends i next own in
    let few = map (own_message i) own in
    let events = restored_events i next own low numbers in
    let below = own_below i next own numbers in
    record {
      names = λ sc n su.
          ap (λ b. option_map own_of (find (targets sc n b) restored)) (no_takes next n restored events)
          ∙ ap (option_map own_of) (found_restored p i next own sc n f numbers rise su.looks)
          ∙ sym (ap (λ b. option_map own_of (find (targets sc n b) few)) (no_takes next n few below));
      left = closed_events next restored events;
      right = closed_events next few below;
    }

-- each number names the same in what is kept, each at its place
pub kept_same : (p : Parts) (i now : ℕ) (s : State) → IsFederation p → Aimed s → AreNumbered i 1 s.sends → s.next ≡ 1 + length s.sends
    → Same (effective_lookahead p i) p.end now s.next s.sends (restored_state i s.vars s.wish s.next (filter (is_in_reach p i now) (own_events s.sends))).sends
kept_same p i now s f aimed num count =
    let next = s.next in
    let sends = s.sends in
    let own = filter (is_in_reach p i now) (own_events sends) in
    let restored = restored_sends i next own in
    let closed = closed_of_aimed next sends sends aimed.under aimed.aims in
    let numbers : AllByRecursion (IsNumberedBelow next) own =
    all_filter (IsNumberedBelow next) (is_in_reach p i now) (own_events sends)
    (all_map (λ (m : Message). (1 ≤ m.number) × Closed next m) (IsNumberedBelow next) own_of (filter (is_untaken sends) sends) (λ m c. (c.0, c.1.0))
    (all_filter (λ (m : Message). (1 ≤ m.number) × Closed next m) (is_untaken sends) sends (both_all (λ (m : Message). 1 ≤ m.number) (Closed next) sends (low_numbers i 1 sends (omega arith) num) closed))) in
    let rise : Pairwise LowerOwn own = pairs_filter LowerOwn (is_in_reach p i now) (own_events sends) (own_rises (filter (is_untaken sends) sends) (pairs_filter Lower (is_untaken sends) sends (numbers_rise i 1 sends num))) in
    let events = restored_events i next own (omega (arith, count)) numbers in
    record {
      names = λ sc n su.
          first_kept p i now n sc sends sends su ∙ ap (option_map own_of) (sym (found_restored p i next own sc n f numbers rise su.looks))
          ∙ sym (ap (λ b. option_map own_of (find (targets sc n b) restored)) (no_takes next n restored events));
      left = closed;
      right = closed_events next restored events;
    }
