-- Each step of a federate leaves a moment sound.
use Rattle.std.proofs.Common.{◌≡◌, ℕ, inl, inr, ◌+◌, ◌<◌, ◌≤◌, Bool, true, false, cond, List, [], ◌∷◌, ◌++◌, length, drop, filter, Option, Some, None, IfSome, arith, refl, sym, ap, ◌∙◌, subst}
use Rattle.std.specs.List.{All, count_by}
use Rattle.std.proofs.lemmas.Bool.{cases_eq, eq-eqb, ne_eqb}
use Rattle.std.proofs.lemmas.List.Elements.{All-push, filter-append}
use Rattle.std.proofs.Math.Seq.{drop-append_seam}
use Rattle.kit_base.specs.declared.message.Message.{Message}
use Rattle.kit_rules.specs.Parts.{Parts, effective_lookahead}
use Rattle.kit_rules.specs.Federation.{IsFederation}
use Rattle.kit_rules.specs.Simulation.{Seat, Block, seat_at_start, seat_due}
use Rattle.kit_laws.proofs.Needs.{count_by-append}
use Rattle.kit_parts.specs.Fronts.{seat_with, seat_after, IsFront, AreFront, is_transported_to, is_by, Standing, sent_by, sends_after}
use Rattle.kit_parts.specs.Promises.{promise}
use Rattle.kit_parts.specs.PromiseLaws.{AddsFrom}
use Rattle.kit_parts.specs.Flows.{Moment, Bounds, with_one, with_pair, progress, after_start, after_post, after_receipt, after_last_post, due_block, after_grant}
use Rattle.kit_parts.proofs.Among.{Among, among_right, filter_among, among_contains}
use Rattle.kit_parts.proofs.Seats.{from_append}
use Rattle.kit_base.proofs.Counting.{count_cons}
use Rattle.kit_parts.proofs.Cutting.{bounds_are_cuts_law}
use Rattle.kit_parts.proofs.Safety.{all_is_heard_law}
use Rattle.kit_parts.proofs.Agreement.{grants_agree_law}
use Rattle.kit_parts.proofs.Promising.{starts_send_late_law, grants_send_late_law, waiting_keeps_promise_law}
use Rattle.kit_parts.proofs.Newness.{what_comes_is_new_law}
use Rattle.kit_parts.proofs.Places.{at_one, off_one, each_one, each_two, pair, among_more}
use Rattle.kit_parts.proofs.Moments.{Sound, HeldBack, Good, held_late, none_held, all_of, one_of}

-- what federate j sent to k is split
abbrev Split : Parts → ℕ → ℕ → List Message → List Message → List Message → List Message → Type 0
Split p j k sends received transit waiting = (test : Message → Bool) → count_by test (filter (is_transported_to p k) sends) ≡ count_by test (filter (is_by j) received) + count_by test transit + count_by test waiting

module _ (p : Parts) (f : IsFederation p) (a : Moment) (good : Good p a) where
  -- a receipt's counts
  receipt_split : (i j : ℕ) (before : List Message) (m : Message) (after : List Message) (q : Standing) → a.transit i j ≡ before ++ m ∷ after → m.sender ≡ i → q.received ≡ (a.all j).received ++ m ∷ [] → (test : Message → Bool)
      → (k l : ℕ) → k < length p.federates → l < length p.federates
      → count_by test (filter (is_transported_to p l) (sent_by p k (a.all k))) ≡ count_by test (filter (is_by k) (with_one a.all j q l).received) + count_by test (with_pair a.transit i j (before ++ after) k l) + count_by test (a.waiting k l)
  receipt_split i j before m after q is by got test k l lk ll =
      let S : List Message → List Message → Type 0 = λ r t. count_by test (filter (is_transported_to p l) (sent_by p k (a.all k))) ≡ count_by test (filter (is_by k) r) + count_by test t + count_by test (a.waiting k l) in
      let was = (good.base.sound.split k l lk ll).counts test in
      elim (cases_eq l j) [
        | inr ne ↦ (let P : Standing → Type 0 = λ v. S v.received (with_pair a.transit i j (before ++ after) k l) in
            let off : with_pair a.transit i j (before ++ after) k l ≡ a.transit k l = elim (cases_eq k i) [
              | inl e ↦ (let Q : ℕ → Type 0 = λ n. with_pair a.transit i j (before ++ after) n l ≡ a.transit n l in subst Q (sym e) (ap (λ (r : ℕ → List Message). r l) (at_one a.transit i (with_one (a.transit i) j (before ++ after))) ∙ off_one (a.transit i) j (before ++ after) l ne))
              | inr other ↦ ap (λ (r : ℕ → List Message). r l) (off_one a.transit i (with_one (a.transit i) j (before ++ after)) k other)
            ] in
            let R : List Message → Type 0 = S (a.all l).received in
            subst P (sym (off_one a.all j q l ne)) (subst R (sym off) was))
        | inl e ↦ (let P : Standing → Type 0 = λ v. S v.received (with_pair a.transit i j (before ++ after) k l) in
            let Q : ℕ → Type 0 = λ n. with_one a.all j q n ≡ q in
            let here : with_one a.all j q l ≡ q = subst Q (sym e) (at_one a.all j q) in
            let T : List Message → Type 0 = λ r. S r (with_pair a.transit i j (before ++ after) k l) in
            let old : (a.all j).received ≡ (a.all l).received = ap (λ (n : ℕ). (a.all n).received) (sym e) in
            let longer : count_by test (filter (is_by k) ((a.all j).received ++ m ∷ [])) ≡ count_by test (filter (is_by k) (a.all l).received) + count_by test (filter (is_by k) (m ∷ [])) =
            ap (count_by test) (filter-append (is_by k) (a.all j).received (m ∷ [])) ∙ count_by-append test (filter (is_by k) (a.all j).received) (filter (is_by k) (m ∷ [])) ∙ ap (λ xs. count_by test (filter (is_by k) xs) + count_by test (filter (is_by k) (m ∷ []))) old in
            subst P (sym here) (subst T (sym got) (elim (cases_eq k i) [
              | inl own ↦ (let at : with_pair a.transit i j (before ++ after) k l ≡ before ++ after = pair_at k l own e in
                  let it : a.transit k l ≡ before ++ m ∷ after = ap (λ (n : ℕ). a.transit n l) own ∙ ap (a.transit i) e ∙ is in
                  let yes_by : filter (is_by k) (m ∷ []) ≡ m ∷ [] = ap (λ b. cond b (m ∷ []) []) (eq-eqb m.sender k (by ∙ sym own)) in
                  omega (arith, was, longer, ap (count_by test) yes_by, ap (count_by test) at, ap (count_by test) it, count_by-append test before (m ∷ after), count_cons test m after, count_cons test m [], count_by-append test before after))
              | inr other ↦ (let off : with_pair a.transit i j (before ++ after) k l ≡ a.transit k l = ap (λ (r : ℕ → List Message). r l) (off_one a.transit i (with_one (a.transit i) j (before ++ after)) k other) in
                  let none_by : filter (is_by k) (m ∷ []) ≡ [] = ap (λ b. cond b (m ∷ []) []) (ne_eqb m.sender k (λ s. other (sym s ∙ by))) in
                  let z : count_by test (filter (is_by k) (m ∷ [])) ≡ 0 = ap (count_by test) none_by in
                  omega (arith, was, longer, z, ap (count_by test) off))
            ])))
      ]
    where
      pair_at : (k l : ℕ) → k ≡ i → l ≡ j → with_pair a.transit i j (before ++ after) k l ≡ before ++ after
      pair_at k l own e =
          ap (λ (n : ℕ). with_pair a.transit i j (before ++ after) n l) own ∙ ap (with_pair a.transit i j (before ++ after) i) e
          ∙ ap (λ (r : ℕ → List Message). r j) (at_one a.transit i (with_one (a.transit i) j (before ++ after))) ∙ at_one (a.transit i) j (before ++ after)

  -- a grant's block is the simulation's
  pub granted_front : (i : ℕ) (done : List Block) (known : ℕ) → i < length p.federates → (a.all i).done ≡ Some done → (seat_after p i done).now < p.end → Bounds p known a → seat_due p (a.all i).received i (seat_after p i done) < known
      → IsFront p i (done ++ due_block p i (a.all i).received done ∷ [])
  granted_front i done known li is below k due =
      let F : Option (List Block) → Type 0 = λ o. IfSome o (IsFront p i) in
      let heard = all_is_heard_law p f known a.all (bounds_are_cuts_law p f known a.all a.transit a.waiting k) i li in
      grants_agree_law p f known i li (a.all i).received heard done (subst F is (k.sound.fronts i li)) below due

  -- and what it sends is held back
  pub made_held : (i : ℕ) (done : List Block) (d : Block) (m : Message) → i < length p.federates → (sends : AddsFrom (d.time + effective_lookahead p i) (seat_after p i done).state.sends (seat_with p i d (seat_after p i done)).state.sends) → Among m sends.made
      → HeldBack p i (progress (Some (done ++ d ∷ [])) true (a.all i).received) m
  made_held i done d m li sends h = record {
    waits = refl;
    done = done ++ d ∷ [];
    is = refl;
    late = (let P : Seat → Type 0 = λ v. v.now + effective_lookahead p i ≤ m.time in
        subst P (sym (from_append p i (seat_at_start p i) done (d ∷ []))) (one_of (λ (x : Message). d.time + effective_lookahead p i ≤ x.time) sends.made m sends.late h));
  }

  -- the start
  pub start_sound : (i : ℕ) → i < length p.federates → (a.all i).done ≡ None → Sound p (after_start p a i)
  start_sound i lt none =
      let q = progress (Some []) true (a.all i).received in
      let row : ℕ → List Message = λ j. filter (is_transported_to p j) (seat_at_start p i).state.sends in
      let c = after_start p a i in
      let same : (k : ℕ) → (c.all k).received ≡ (a.all k).received = each_one (λ k v. v.received ≡ (a.all k).received) a.all i q refl (λ k ne. refl) in
      let late = starts_send_late_law p f i lt in
      let split : (j k : ℕ) → j < length p.federates → k < length p.federates → Split p j k (sent_by p j (c.all j)) (a.all k).received (a.transit j k) (c.waiting j k) =
      λ j k. each_two (λ j v w. j < length p.federates → k < length p.federates → Split p j k (sent_by p j v) (a.all k).received (a.transit j k) (w k)) a.all a.waiting i q row
      (λ li lk test.
      let P : Option (List Block) → Type 0 = λ o. count_by test (filter (is_transported_to p k) (sends_after p i o)) ≡ count_by test (filter (is_by i) (a.all k).received) + count_by test (a.transit i k) + count_by test (a.waiting i k) in
      let was : count_by test [] ≡ count_by test (filter (is_by i) (a.all k).received) + count_by test (a.transit i k) + count_by test (a.waiting i k) = subst P none ((good.base.sound.split i k li lk).counts test) in
      let z : count_by test [] ≡ 0 = refl in
      omega (arith, was, z))
      (λ j ne lj lk test. (good.base.sound.split j k lj lk).counts test) j in
      record {
        fronts = each_one (λ k v. k < length p.federates → AreFront p k v) a.all i q (λ l. refl) (λ k ne l. good.base.sound.fronts k l);
        senders = each_one (λ k v. k < length p.federates → All (λ (m : Message). m.sender < length p.federates) v.received) a.all i q (λ l. good.base.sound.senders i l) (λ k ne l. good.base.sound.senders k l);
        split = λ j k lj lk. record {
          counts = λ test.
              let P : List Message → Type 0 = λ r. count_by test (filter (is_transported_to p k) (sent_by p j (c.all j))) ≡ count_by test (filter (is_by j) r) + count_by test (a.transit j k) + count_by test (c.waiting j k) in
              subst P (sym (same k)) (split j k lj lk test);
        };
        waiting_late = λ j k. each_two (λ j v w. j < length p.federates → k < length p.federates → All (λ (m : Message). promise p j v ≤ m.time) (w k)) a.all a.waiting i q row
            (λ li lk. all_of (λ (m : Message). promise p i q ≤ m.time) (row k) (λ m h.
            let l = one_of (λ (m : Message). effective_lookahead p i ≤ m.time) (seat_at_start p i).state.sends m late (filter_among (is_transported_to p k) m (seat_at_start p i).state.sends h).0 in
            omega (arith, l, waiting_keeps_promise_law p f i lt (a.all i).received [])))
            (λ j ne lj lk. good.base.sound.waiting_late j k lj lk) j;
      }

  -- a post
  pub post_sound : (i j : ℕ) (before : List Message) (m : Message) (after : List Message) → i < length p.federates → j < length p.federates → a.waiting i j ≡ before ++ m ∷ after → Sound p (after_post a i j before m after)
  post_sound i j before m after li lj is =
      let c = after_post a i j before m after in
      let late : All (λ (x : Message). promise p i (a.all i) ≤ x.time) (a.waiting i j) = good.base.sound.waiting_late i j li lj in
      let here : Among m (a.waiting i j) = subst (Among m) (sym is) (among_right m before (m ∷ after) (inl refl)) in
      record {
        fronts = good.base.sound.fronts;
        senders = good.base.sound.senders;
        split = λ k l lk ll. record {
          counts = λ test. pair (λ k l t w. k < length p.federates → l < length p.federates → count_by test (filter (is_transported_to p l) (sent_by p k (a.all k))) ≡ count_by test (filter (is_by k) (a.all l).received) + count_by test t + count_by test w)
              a.transit a.waiting i j (a.transit i j ++ m ∷ []) (before ++ after)
              (λ u v. omega (arith, (good.base.sound.split i j u v).counts test, ap (count_by test) is, count_by-append test before (m ∷ after), count_cons test m after, count_by-append test (a.transit i j) (m ∷ []), count_cons test m [], count_by-append test before after))
              (λ k l u v. (good.base.sound.split k l u v).counts test) k l lk ll;
        };
        waiting_late = λ k l. pair (λ k l t w. k < length p.federates → l < length p.federates → All (λ (x : Message). promise p k (a.all k) ≤ x.time) w) a.transit a.waiting i j (a.transit i j ++ m ∷ []) (before ++ after)
            (λ u v. all_of (λ (x : Message). promise p i (a.all i) ≤ x.time) (before ++ after) (λ x h. one_of (λ (x : Message). promise p i (a.all i) ≤ x.time) (a.waiting i j) x late (subst (Among x) (sym is) (among_more x before m after h))))
            (λ k l u v. good.base.sound.waiting_late k l u v) k l;
      }

  -- a receipt
  pub receipt_sound : (i j : ℕ) (before : List Message) (m : Message) (after : List Message) → i < length p.federates → j < length p.federates → a.transit i j ≡ before ++ m ∷ after → Sound p (after_receipt a i j before m after)
  receipt_sound i j before m after li lj is =
      let q = progress (a.all j).done (a.all j).waits ((a.all j).received ++ m ∷ []) in
      let c = after_receipt a i j before m after in
      let here : Among m (a.transit i j) = subst (Among m) (sym is) (among_right m before (m ∷ after) (inl refl)) in
      let by = (what_comes_is_new_law p f a.all a.transit a.waiting good.base.sound i j li lj m (among_contains m (a.transit i j) here)).sender in
      let same : (k : ℕ) → sent_by p k (c.all k) ≡ sent_by p k (a.all k) = each_one (λ k v. sent_by p k v ≡ sent_by p k (a.all k)) a.all j q refl (λ k ne. refl) in
      record {
        fronts = each_one (λ k v. k < length p.federates → AreFront p k v) a.all j q (λ l. good.base.sound.fronts j l) (λ k ne l. good.base.sound.fronts k l);
        senders = each_one (λ k v. k < length p.federates → All (λ (m : Message). m.sender < length p.federates) v.received) a.all j q
            (λ l. All-push (λ (x : Message). x.sender < length p.federates) (a.all j).received m (good.base.sound.senders j l) (omega (arith, by))) (λ k ne l. good.base.sound.senders k l);
        split = λ k l lk ll. record {
          counts = λ test.
              let P : List Message → Type 0 = λ s. count_by test (filter (is_transported_to p l) s) ≡ count_by test (filter (is_by k) (c.all l).received) + count_by test (c.transit k l) + count_by test (a.waiting k l) in
              subst P (sym (same k)) (receipt_split i j before m after q is by refl test k l lk ll);
        };
        waiting_late = λ k l. each_one (λ k v. k < length p.federates → l < length p.federates → All (λ (x : Message). promise p k v ≤ x.time) (a.waiting k l)) a.all j q
            (λ u v. all_of (λ (x : Message). promise p j q ≤ x.time) (a.waiting j l) (λ x h. let e = good.held j l u v x h in held_late p f j q x u (record { waits = e.waits; done = e.done; is = e.is; late = e.late })))
            (λ k ne u v. good.base.sound.waiting_late k l u v) k;
      }

  -- the last post
  pub last_sound : (i : ℕ) → i < length p.federates → ((j : ℕ) → j < length p.federates → a.waiting i j ≡ []) → Sound p (after_last_post a i)
  last_sound i li empty =
      let q = progress (a.all i).done false (a.all i).received in
      let c = after_last_post a i in
      let same : (k : ℕ) → sent_by p k (c.all k) ≡ sent_by p k (a.all k) = each_one (λ k v. sent_by p k v ≡ sent_by p k (a.all k)) a.all i q refl (λ k ne. refl) in
      let got : (k : ℕ) → (c.all k).received ≡ (a.all k).received = each_one (λ k v. v.received ≡ (a.all k).received) a.all i q refl (λ k ne. refl) in
      record {
        fronts = each_one (λ k v. k < length p.federates → AreFront p k v) a.all i q (λ l. good.base.sound.fronts i l) (λ k ne l. good.base.sound.fronts k l);
        senders = each_one (λ k v. k < length p.federates → All (λ (m : Message). m.sender < length p.federates) v.received) a.all i q (λ l. good.base.sound.senders i l) (λ k ne l. good.base.sound.senders k l);
        split = λ j k lj lk. record {
          counts = λ test.
              let P : List Message → Type 0 = λ s. count_by test (filter (is_transported_to p k) s) ≡ count_by test (filter (is_by j) (c.all k).received) + count_by test (a.transit j k) + count_by test (a.waiting j k) in
              let Q : List Message → Type 0 = λ r. count_by test (filter (is_transported_to p k) (sent_by p j (a.all j))) ≡ count_by test (filter (is_by j) r) + count_by test (a.transit j k) + count_by test (a.waiting j k) in
              subst P (sym (same j)) (subst Q (sym (got k)) ((good.base.sound.split j k lj lk).counts test));
        };
        waiting_late = λ j k. each_one (λ j v. j < length p.federates → k < length p.federates → All (λ (x : Message). promise p j v ≤ x.time) (a.waiting j k)) a.all i q
            (λ u v. let P : List Message → Type 0 = All (λ (x : Message). promise p i q ≤ x.time) in subst P (sym (empty k v)) (λ n d lt. absurd (omega arith)))
            (λ j ne u v. good.base.sound.waiting_late j k u v) j;
      }

  -- a grant
  pub grant_sound : (i : ℕ) (done : List Block) (known : ℕ) → i < length p.federates → (a.all i).done ≡ Some done → (a.all i).waits ≡ false → (seat_after p i done).now < p.end
      → Bounds p known a → seat_due p (a.all i).received i (seat_after p i done) < known → Sound p (after_grant p a i done)
  grant_sound i done known li is idle below k due =
      let s = seat_after p i done in
      let d = due_block p i (a.all i).received done in
      let q = progress (Some (done ++ d ∷ [])) true (a.all i).received in
      let new = seat_with p i d s in
      let made = drop (length s.state.sends) new.state.sends in
      let row : ℕ → List Message = λ j. filter (is_transported_to p j) made in
      let c = after_grant p a i done in
      let front = granted_front i done known li is below k due in
      let sends = grants_send_late_law p f i li d s in
      let is_made : made ≡ sends.made = ap (drop (length s.state.sends)) sends.sends ∙ drop-append_seam s.state.sends sends.made in
      let seat : seat_after p i (done ++ d ∷ []) ≡ new = from_append p i (seat_at_start p i) done (d ∷ []) in
      let all_sends : sent_by p i q ≡ s.state.sends ++ made = ap (λ (v : Seat). v.state.sends) seat ∙ sends.sends ∙ ap (λ xs. s.state.sends ++ xs) (sym is_made) in
      let got : (k : ℕ) → (c.all k).received ≡ (a.all k).received = each_one (λ k v. v.received ≡ (a.all k).received) a.all i q refl (λ k ne. refl) in
      let split : (j k : ℕ) → j < length p.federates → k < length p.federates → Split p j k (sent_by p j (c.all j)) (a.all k).received (a.transit j k) (c.waiting j k) =
      λ j k. each_two (λ j v w. j < length p.federates → k < length p.federates → Split p j k (sent_by p j v) (a.all k).received (a.transit j k) (w k)) a.all a.waiting i q row
      (λ u v test.
      let P : Option (List Block) → Type 0 = λ o. count_by test (filter (is_transported_to p k) (sends_after p i o)) ≡ count_by test (filter (is_by i) (a.all k).received) + count_by test (a.transit i k) + count_by test (a.waiting i k) in
      let was = subst P is ((good.base.sound.split i k u v).counts test) in
      let none : a.waiting i k ≡ [] = none_held p i (a.all i) (a.waiting i k) idle (good.held i k u v) in
      let zero_count : count_by test (a.waiting i k) ≡ 0 = ap (count_by test) none in
      omega (arith, was, zero_count, ap (λ xs. count_by test (filter (is_transported_to p k) xs)) all_sends, ap (count_by test) (filter-append (is_transported_to p k) s.state.sends made), count_by-append test (filter (is_transported_to p k) s.state.sends) (filter (is_transported_to p k) made)))
      (λ j ne u v test. (good.base.sound.split j k u v).counts test) j in
      record {
        fronts = each_one (λ k v. k < length p.federates → AreFront p k v) a.all i q (λ l. front) (λ k ne l. good.base.sound.fronts k l);
        senders = each_one (λ k v. k < length p.federates → All (λ (m : Message). m.sender < length p.federates) v.received) a.all i q (λ l. good.base.sound.senders i l) (λ k ne l. good.base.sound.senders k l);
        split = λ j k lj lk. record {
          counts = λ test.
              let P : List Message → Type 0 = λ r. count_by test (filter (is_transported_to p k) (sent_by p j (c.all j))) ≡ count_by test (filter (is_by j) r) + count_by test (a.transit j k) + count_by test (c.waiting j k) in
              subst P (sym (got k)) (split j k lj lk test);
        };
        waiting_late = λ j k. each_two (λ j v w. j < length p.federates → k < length p.federates → All (λ (m : Message). promise p j v ≤ m.time) (w k)) a.all a.waiting i q row
            (λ u v. all_of (λ (m : Message). promise p i q ≤ m.time) (row k) (λ m h.
            held_late p f i q m li (made_held i done d m li sends (subst (Among m) is_made (filter_among (is_transported_to p k) m made h).0))))
            (λ j ne u v. good.base.sound.waiting_late j k u v) j;
      }
