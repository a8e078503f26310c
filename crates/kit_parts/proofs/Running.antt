-- Whole runs: bounds stay bounds, what is granted is the simulation's, and nothing comes late.
use Rattle.std.proofs.Common.{◌≡◌, ℕ, zero, suc, inl, ◌+◌, ◌<◌, ◌≤◌, true, false, List, [], ◌∷◌, ◌++◌, length, map, get_or, drop, filter, Option, Some, None, IfSome, arith, refl, sym, ap, ◌∙◌, subst}
use Rattle.std.specs.List.{All, range_with_len}
use Rattle.std.proofs.lemmas.List.{append-nil, append_assoc}
use Rattle.std.proofs.lemmas.List.Elements.{All-append}
use Rattle.std.proofs.Math.Seq.{drop-append_seam}
use Rattle.kit_base.specs.declared.message.Message.{Message}
use Rattle.kit_rules.specs.Parts.{Parts, effective_lookahead}
use Rattle.kit_rules.specs.Federation.{IsFederation}
use Rattle.kit_rules.specs.Simulation.{Seat, Block, lines_of, seat_at_start}
use Rattle.kit_parts.specs.Fronts.{seat_with, seat_after, part, IsFront, is_transported_to}
use Rattle.kit_parts.specs.Flows.{Moment, Bounds, progress, opening, after_start, after_post, after_receipt, after_last_post, due_block, after_grant, Step, starts, posts, receives, settles, grants, Flow, still, goes, FlowsKeepBounds, FlowsAgree, FlowsAreLawful, EndsAgree, blocks_done, done_by, EndsMakeTheText}
use Rattle.kit_rules.specs.Text.{history_text}
use Rattle.kit_rules.proofs.Lookaheads.{lookahead_is_positive}
use Rattle.kit_parts.specs.Merging.{IsMerge, parts_of, vars_of}
use Rattle.kit_parts.proofs.Merged.{parts_make_the_text_law}
use Rattle.kit_parts.proofs.Among.{Among, among_right, filter_among}
use Rattle.kit_parts.proofs.Seats.{from_append}
use Rattle.kit_parts.proofs.Ends.{ends_are_whole_law}
use Rattle.kit_parts.proofs.Promising.{starts_send_late_law, grants_send_late_law}
use Rattle.kit_parts.proofs.Places.{each_one, each_two, pair, among_more}
use Rattle.kit_parts.proofs.Moments.{HeldBack, Good, one_of}
use Rattle.kit_parts.proofs.Moving.{carried, start_carries, post_carries, receipt_carries, last_carries, grant_carries}
use Rattle.kit_parts.proofs.Flowing.{start_sound, post_sound, receipt_sound, last_sound, grant_sound, made_held}

-- a step leaves a bound a bound
step_bounded : (p : Parts) (f : IsFederation p) {a b : Moment} → Good p a → Step p a b → (bound : ℕ) → Bounds p bound a → Bounds p bound b
step_bounded p f g (starts a i lt none) = carried p a (after_start p a i) (start_sound p f a g i lt none) (start_carries p f a g i lt none)
step_bounded p f g (posts a i j before m after li lj is) = carried p a (after_post a i j before m after) (post_sound p f a g i j before m after li lj is) (post_carries p f a g i j before m after is)
step_bounded p f g (receives a i j before m after li lj is) = carried p a (after_receipt a i j before m after) (receipt_sound p f a g i j before m after li lj is) (receipt_carries p f a g i j before m after li lj is)
step_bounded p f g (settles a i li empty) = carried p a (after_last_post a i) (last_sound p f a g i li empty) (last_carries p f a g i li)
step_bounded p f g (grants a i done known li is idle below k due) = carried p a (after_grant p a i done) (grant_sound p f a g i done known li is idle below k due) (grant_carries p f a g i done li is idle below)

-- what waits is held back after it
step_held : (p : Parts) (f : IsFederation p) {a b : Moment} → Good p a → Step p a b → (j k : ℕ) → j < length p.federates → k < length p.federates → (m : Message) → Among m (b.waiting j k) → HeldBack p j (b.all j) m
step_held p f g (starts a i lt none) j k =
    each_two (λ j v w. j < length p.federates → k < length p.federates → (m : Message) → Among m (w k) → HeldBack p j v m) a.all a.waiting i (progress (Some []) true (a.all i).received) (λ j. filter (is_transported_to p j) (seat_at_start p i).state.sends)
    (λ li lk m h. record { waits = refl; done = []; is = refl; late = (let l = one_of (λ (x : Message). effective_lookahead p i ≤ x.time) (seat_at_start p i).state.sends m (starts_send_late_law p f i li) (filter_among (is_transported_to p k) m (seat_at_start p i).state.sends h).0 in omega arith) })
    (λ j ne lj lk m h. g.held j k lj lk m h) j
step_held p f g (posts a i j before m after li lj is) k l =
    pair (λ k l t w. k < length p.federates → l < length p.federates → (x : Message) → Among x w → HeldBack p k (a.all k) x) a.transit a.waiting i j (a.transit i j ++ m ∷ []) (before ++ after)
    (λ u v x h. g.held i j u v x (subst (Among x) (sym is) (among_more x before m after h)))
    (λ k l u v x h. g.held k l u v x h) k l
step_held p f g (receives a i j before m after li lj is) k l =
    each_one (λ k v. k < length p.federates → l < length p.federates → (x : Message) → Among x (a.waiting k l) → HeldBack p k v x) a.all j (progress (a.all j).done (a.all j).waits ((a.all j).received ++ m ∷ []))
    (λ u v x h. let e = g.held j l u v x h in record { waits = e.waits; done = e.done; is = e.is; late = e.late })
    (λ k ne u v x h. g.held k l u v x h) k
step_held p f g (settles a i li empty) k l =
    each_one (λ k v. k < length p.federates → l < length p.federates → (x : Message) → Among x (a.waiting k l) → HeldBack p k v x) a.all i (progress (a.all i).done false (a.all i).received)
    (λ u v x h. let n : Among x [] = subst (Among x) (empty l v) h in elim n [ ])
    (λ k ne u v x h. g.held k l u v x h) k
step_held p f g (grants a i done known li is idle below b due) j k =
    let s = seat_after p i done in
    let d = due_block p i (a.all i).received done in
    let made = drop (length s.state.sends) (seat_with p i d s).state.sends in
    let sends = grants_send_late_law p f i li d s in
    let is_made : made ≡ sends.made = ap (drop (length s.state.sends)) sends.sends ∙ drop-append_seam s.state.sends sends.made in
    each_two (λ j v w. j < length p.federates → k < length p.federates → (m : Message) → Among m (w k) → HeldBack p j v m) a.all a.waiting i (progress (Some (done ++ d ∷ [])) true (a.all i).received) (λ j. filter (is_transported_to p j) made)
    (λ u v m h. made_held p f a g i done d m li sends (subst (Among m) is_made (filter_among (is_transported_to p k) m made h).0))
    (λ j ne lj lk m h. g.held j k lj lk m h) j

-- each federate's time is below a bound
abbrev Ahead : Parts → Moment → ℕ → Option (List Block) → Type 0
Ahead p b j o = IfSome o (λ done. (known : ℕ) × ((seat_after p j done).now < known) × Bounds p known b)

ahead_from : (p : Parts) (f : IsFederation p) {a b : Moment} → Good p a → Step p a b → (j : ℕ) → j < length p.federates → (o : Option (List Block)) → (a.all j).done ≡ o → Ahead p b j o
ahead_from p f g step j lt None e = tt
ahead_from p f g step j lt (Some done) e = let k = g.ahead j lt done e in (k.0, k.1, step_bounded p f g step k.0 k.2)

step_ahead : (p : Parts) (f : IsFederation p) {a b : Moment} → Good p a → Step p a b → (j : ℕ) → j < length p.federates → Ahead p b j (b.all j).done
step_ahead p f g (starts a i lt none) j lj =
    let s = starts a i lt none in
    each_one (λ j v. j < length p.federates → Ahead p (after_start p a i) j v.done) a.all i (progress (Some []) true (a.all i).received)
    (λ l. (1, omega arith, step_bounded p f g s 1 g.base))
    (λ j ne l. ahead_from p f g s j l (a.all j).done refl) j lj
step_ahead p f g (posts a i j before m after li lj is) k lk = ahead_from p f g (posts a i j before m after li lj is) k lk (a.all k).done refl
step_ahead p f g (receives a i j before m after li lj is) k lk =
    let s = receives a i j before m after li lj is in
    each_one (λ k v. k < length p.federates → Ahead p (after_receipt a i j before m after) k v.done) a.all j (progress (a.all j).done (a.all j).waits ((a.all j).received ++ m ∷ []))
    (λ l. ahead_from p f g s j l (a.all j).done refl) (λ k ne l. ahead_from p f g s k l (a.all k).done refl) k lk
step_ahead p f g (settles a i li empty) k lk =
    let s = settles a i li empty in
    each_one (λ k v. k < length p.federates → Ahead p (after_last_post a i) k v.done) a.all i (progress (a.all i).done false (a.all i).received)
    (λ l. ahead_from p f g s i l (a.all i).done refl) (λ k ne l. ahead_from p f g s k l (a.all k).done refl) k lk
step_ahead p f g (grants a i done known li is idle below b due) j lj =
    let s = grants a i done known li is idle below b due in
    let d = due_block p i (a.all i).received done in
    each_one (λ j v. j < length p.federates → Ahead p (after_grant p a i done) j v.done) a.all i (progress (Some (done ++ d ∷ [])) true (a.all i).received)
    (λ l. (known, (let P : Seat → Type 0 = λ v. v.now < known in subst P (sym (from_append p i (seat_at_start p i) done (d ∷ []))) due), step_bounded p f g s known b))
    (λ j ne l. ahead_from p f g s j l (a.all j).done refl) j lj

step_good : (p : Parts) (f : IsFederation p) {a b : Moment} → Good p a → Step p a b → Good p b
step_good p f {a} {b} g s = record {
  base = step_bounded p f g s 1 g.base;
  held = step_held p f g s;
  ahead = λ j lt done e. let P : Option (List Block) → Type 0 = Ahead p b j in subst P e (step_ahead p f g s j lt);
}

opening_good : (p : Parts) → IsFederation p → Good p opening
opening_good p f = record {
  base = record {
    sound = record {
      fronts = λ i lt. tt;
      senders = λ i lt k d within. absurd (omega arith);
      split = λ j i lj li. record { counts = λ test. refl };
      waiting_late = λ j i lj li k d within. absurd (omega arith);
    };
    transit_late = λ j i lj li k d within. absurd (omega arith);
    promised = λ i lt. omega (arith, lookahead_is_positive p i f);
  };
  held = λ j k lj lk m h. elim h [ ];
  ahead = λ j lt done e. absurd (cc);
}

flow_good : (p : Parts) (f : IsFederation p) {a b : Moment} → Good p a → Flow p a b → Good p b
flow_good p f g (still a) = g
flow_good p f g (goes a b c s rest) = flow_good p f (step_good p f g s) rest

flow_bounded : (p : Parts) (f : IsFederation p) {a b : Moment} → Good p a → Flow p a b → (bound : ℕ) → Bounds p bound a → Bounds p bound b
flow_bounded p f g (still a) bound h = h
flow_bounded p f g (goes a b c s rest) bound h = flow_bounded p f (step_good p f g s) rest bound (step_bounded p f g s bound h)

pub flows_keep_bounds_law : FlowsKeepBounds
flows_keep_bounds_law p f a b before flow bound h = flow_bounded p f (flow_good p f (opening_good p f) before) flow bound h

pub flows_agree_law : FlowsAgree
flows_agree_law p f a before = (flow_good p f (opening_good p f) before).base

pub ends_agree_law : EndsAgree
ends_agree_law p f a before i lt done is ended =
    let F : Option (List Block) → Type 0 = λ o. IfSome o (IsFront p i) in
    ends_are_whole_law p f i lt done (subst F is ((flows_agree_law p f a before).sound.fronts i lt)) ended

-- what is received in a step is timed a bound or later
record Since (bound : ℕ) (old new : List Message) : Type 0 where
  more : List Message
  split : new ≡ old ++ more
  late : All (λ (m : Message). bound ≤ m.time) more

since_none : (bound : ℕ) (old : List Message) → Since bound old old
since_none bound old = record { more = []; split = sym (append-nil old); late = λ k d lt. absurd (omega arith) }

step_since : (p : Parts) (bound : ℕ) {a b : Moment} → Bounds p bound a → Step p a b → (i : ℕ) → i < length p.federates → Since bound (a.all i).received (b.all i).received
step_since p bound h (starts a i lt none) k lk = each_one (λ k v. Since bound (a.all k).received v.received) a.all i (progress (Some []) true (a.all i).received) (since_none bound (a.all i).received) (λ k ne. since_none bound (a.all k).received) k
step_since p bound h (posts a i j before m after li lj is) k lk = since_none bound (a.all k).received
step_since p bound h (receives a i j before m after li lj is) k lk =
    each_one (λ k v. Since bound (a.all k).received v.received) a.all j (progress (a.all j).done (a.all j).waits ((a.all j).received ++ m ∷ []))
    (record {
      more = m ∷ [];
      split = refl;
      late = λ n d within.
          let l : bound ≤ m.time = one_of (λ (x : Message). bound ≤ x.time) (a.transit i j) m (h.transit_late i j li lj) (subst (Among m) (sym is) (among_right m before (m ∷ after) (inl refl))) in
          (let zero_place : n ≡ 0 = omega arith in let P : ℕ → Type 0 = λ n. bound ≤ (get_or (m ∷ []) n d).time in subst P (sym zero_place) l);
    })
    (λ k ne. since_none bound (a.all k).received) k
step_since p bound h (settles a i li empty) k lk = each_one (λ k v. Since bound (a.all k).received v.received) a.all i (progress (a.all i).done false (a.all i).received) (since_none bound (a.all i).received) (λ k ne. since_none bound (a.all k).received) k
step_since p bound h (grants a i done known li is idle below b due) k lk =
    each_one (λ k v. Since bound (a.all k).received v.received) a.all i (progress (Some (done ++ due_block p i (a.all i).received done ∷ [])) true (a.all i).received) (since_none bound (a.all i).received) (λ k ne. since_none bound (a.all k).received) k

flow_since : (p : Parts) (f : IsFederation p) (bound : ℕ) {a b : Moment} → Good p a → Bounds p bound a → Flow p a b → (i : ℕ) → i < length p.federates → Since bound (a.all i).received (b.all i).received
flow_since p f bound g h (still a) i lt = since_none bound (a.all i).received
flow_since p f bound g h (goes a b c s rest) i lt =
    let x = step_since p bound h s i lt in
    let y = flow_since p f bound (step_good p f g s) (step_bounded p f g s bound h) rest i lt in
    record {
      more = x.more ++ y.more;
      split = y.split ∙ ap (λ xs. xs ++ y.more) x.split ∙ append_assoc (a.all i).received x.more y.more;
      late = All-append (λ (m : Message). bound ≤ m.time) x.more y.more x.late y.late;
    }

pub flows_are_lawful_law : FlowsAreLawful
flows_are_lawful_law p f a b before flow i lt done is =
    let g = flow_good p f (opening_good p f) before in
    let k = g.ahead i lt done is in
    let s = flow_since p f k.0 g k.2 flow i lt in
    record { more = s.more; split = s.split; late = λ n d within. let l = s.late n d within in omega (arith, k.1) }

-- functions that agree below a number make the same list
map_range : {X : Type 0} (g h : ℕ → X) (from n : ℕ) → ((k : ℕ) → from ≤ k → k < from + n → g k ≡ h k) → map g (range_with_len from n) ≡ map h (range_with_len from n)
map_range g h from zero same = refl
map_range g h from (suc n) same = ap (λ x. x ∷ map g (range_with_len (from + 1) n)) (same from (omega arith) (omega arith)) ∙ ap (λ xs. h from ∷ xs) (map_range g h (from + 1) n (λ k low high. same k (omega arith) (omega arith)))

pub ends_make_the_text_law : EndsMakeTheText
ends_make_the_text_law p f a before ended blocks merge =
    let n = length p.federates in
    let whole : (i : ℕ) → i < n → done_by (a.all i) ≡ part p i = λ i lt. let e = ended i lt in ap blocks_done e.1 ∙ ends_agree_law p f a before i lt e.0 e.1 e.2 in
    let parts : map (λ i. done_by (a.all i)) (range_with_len 0 n) ≡ parts_of p = map_range (λ i. done_by (a.all i)) (part p) 0 n (λ k low high. whole k (omega arith)) in
    let vars : map (λ i. (seat_after p i (done_by (a.all i))).state.vars) (range_with_len 0 n) ≡ vars_of p =
    map_range (λ i. (seat_after p i (done_by (a.all i))).state.vars) (λ i. (seat_after p i (part p i)).state.vars) 0 n (λ k low high. ap (λ bs. (seat_after p k bs).state.vars) (whole k (omega arith))) in
    let P : List (List Block) → Type 0 = λ ps. IsMerge ps blocks in
    ap (history_text p (lines_of blocks)) vars ∙ parts_make_the_text_law p f blocks (subst P parts merge)
