-- What a node's part in the rounds comes to: it mirrors its seat again, and has opened, polled or closed a round.
use Rattle.std.proofs.Common.{◌≡◌, ◌≢◌, ℕ, ◌+◌, ◌-◌, ◌^◌, ◌<◌, ◌≤◌, ◌==◌, ◌||◌, ◌⊎◌, inl, inr, nat_lt, Bool, true, false, cond, List, [], ◌∷◌, ◌++◌, length, take, refl, sym, ap, ◌∙◌, subst, arith, eq-eqb, if◌then◌else◌}
use Rattle.std.specs.Prelude.{None, slice_index}
use Rattle.std.proofs.Math.Seq.{take-length}
use Rattle.std.proofs.lemmas.Bool.{and_from, and_parts, eqb-true, false≢true, lt-ltb, ltb-true}
use Rattle.std.proofs.lemmas.List.{take_all, take_at}
use Rattle.kit_ground.specs.declared.place.Place.{Place}
use Rattle.kit_model.specs.declared.share.Share.{Share}
use Rattle.kit_model.specs.Shares.{Shows}
use Rattle.kit_rounds.specs.declared.contribution.Contribution.{Contribution}
use Rattle.kit_rules.specs.Parts.{Parts}
use Rattle.kit_lbts.specs.declared.view.LbtsView.{LbtsView}
use Rattle.kit_lbts.specs.declared.view.Scheme.{Scheme}
use Rattle.kit_lbts.specs.LedgerLaws.{ready_place}
use Rattle.kit_lbts.specs.Progress.{is_under_way}
use Rattle.kit_lbts.specs.Promises.{bound_in, bound_of}
use Rattle.kit_lbts.specs.PublishLaws.{ShowsLast}
use Rattle.kit_lbts.specs.Reduction.{shares_needed, publishes, reg_of, sources}
use Rattle.kit_lbts.specs.SeatLaws.{IsInWorld}
use Rattle.kit_fly.specs.Rounds.{FollowsRound, LeavesSeat, RoundState, SlotsShowRound}
use Rattle.kit_fly.proofs.Polls.{left_here, left_on}
use Rattle.kit_node.specs.declared.node.Node.{Node}
use Rattle.kit_node.specs.declared.rounds.Rounds.{Rounds}
use Rattle.kit_node.specs.Fields.{closed_with}
use Rattle.kit_node.specs.Mirrors.{HasUnderWay, Mirrors, Shown}
use Rattle.kit_node.specs.Reducing.{HasLearnt, HasOpened, HasPolled, HasReduced, IsAwaited, IsClosed, IsPastOpening, IsStillOpen, ShowsReached, coloured, rounds_reached}
use Rattle.kit_node.specs.Turns.{SameNode}
use Rattle.kit_node.proofs.MirrorFrames.{ready_same}
use Rattle.kit_node.proofs.OpenedRounds as opened
use Rattle.kit_node.proofs.RoundMirrors.{polled_mirrors, results_before}
use Rattle.kit_node.proofs.RoundOpenings.{coloured_by, ready_rounds}
use Rattle.kit_lbts.proofs.ReadyWorlds.{ready_asked}

abbrev P : Type 0
P = Place LbtsView

-- WHETHER A ROUND IS UNDER WAY, by the numbers of contributions and of results
pub none_under_way : (v : LbtsView) → length v.contributions ≡ length v.results → is_under_way v ≡ true → ⊥
none_under_way v level on =
    let parts = and_parts (length v.results == length v.contributions - 1) (nat_lt 0 (length v.contributions)) on in
    let less = eqb-true (length v.results) (length v.contributions - 1) parts.0 in
    let some_ = ltb-true 0 (length v.contributions) parts.1 in
    omega (arith, level, less, some_)

pub some_under_way : (v : LbtsView) → length v.results ≡ length v.contributions - 1 → 0 < length v.contributions → is_under_way v ≡ true
some_under_way v short some_ =
    and_from (length v.results == length v.contributions - 1) (nat_lt 0 (length v.contributions)) (eq-eqb (length v.results) (length v.contributions - 1) short) (lt-ltb 0 (length v.contributions) some_)

-- SLOTS
pub whole_shows : (q : P) → ShowsLast q → ShowsReached q
whole_shows q h stage lt does enough some_ = h stage lt does some_

pub round_shows : (scheme : Scheme) (k : RoundState) (q : P) → HasUnderWay scheme k q → is_under_way q.client ≡ true → ShowsReached q
round_shows scheme k q h on stage lt does enough some_ =
    let f = h.follows in
    let there : publishes scheme k.federates k.number stage ≡ true = (λ i. publishes (sym f.scheme_is i) (sym f.federates i) (sym f.number i) stage) ∙ does in
    let same : shares_needed scheme k.federates k.number stage ≡ shares_needed q.client.scheme q.own.federates q.own.number stage = λ i. shares_needed (sym f.scheme_is i) (sym f.federates i) (sym f.number i) stage in
    let taken : rounds_reached q ≡ length q.client.taken = ap (λ (b : Bool). if b then length q.client.taken else length (sources q.client.scheme q.own.federates q.own.number)) on in
    let many = (f.under_way h.more).taken in
    subst (λ (x : ℕ). Shows (slice_index q.own.shown (reg_of q.own.number stage x).slot) x) (sym f.round) (h.shown stage lt there (omega (arith, enough, same, taken, many)))

-- from p to q a round is under way: it was, or it was opened
pub record RoundStands (p q : P) : Type 0 where
  pub leaves : LeavesSeat p q
  pub asked : q.client.request ≢ None
  pub view : q.client ≡ record (ready_place p).client { contributions = q.client.contributions; taken = q.client.taken; results = q.client.results }
  pub few : length q.client.contributions ≤ length p.client.contributions + 1
  pub base : results_before q.client ≡ p.client.results
  pub short : length p.client.results ≡ length q.client.contributions - 1
  pub some : 0 < length q.client.contributions
  pub within : (is_under_way p.client ≡ true) ⊎ (bound_of p.client ≤ p.client.federation.end)

pub stands_before : {Q R : Type 0} (sh : Shown Q R) (n : Node Q R) (p : P) → Mirrors sh n p → n.rounds.under_way ≡ true → p.client.request ≢ None → RoundStands p p
stands_before sh n p m on asked =
    let u = m.rounds.under_way on in
    let f = u.follows in
    let short : length p.client.results ≡ length p.client.contributions - 1 = (let s = (f.under_way u.more).results in let r = f.round in omega (arith, s, r)) in
    let some_ : 0 < length p.client.contributions = (let s = f.started in let r = f.round in omega (arith, s, r)) in
    record {
      leaves = left_here p;
      asked = asked;
      view = ap (λ (x : P). record x.client { contributions = p.client.contributions; taken = p.client.taken; results = p.client.results }) (sym (ready_same p asked));
      few = omega arith;
      base = take_all (length p.client.contributions - 1) p.client.results (omega (arith, short));
      short = short;
      some = some_;
      within = inl (some_under_way p.client short some_);
    }

pub stands_now : {Q R : Type 0} (sh : Shown Q R) (n n' : Node Q R) (p q : P) → IsInWorld p → Mirrors sh n (ready_place p) → HasOpened sh n n' p q → RoundStands p q
stands_now sh n n' p q w m h =
    let view = (opened.view_is sh n n' p q w m h).1 in
    let level = opened.level sh n n' p q w m h in
    let one = opened.one_more sh n n' p q w m h in
    let s = ready_rounds p in
    let results = ap (λ l. length l) s.results in
    let contributions = ap (λ l. length l) s.contributions in
    record {
      leaves = h.leaves;
      asked = λ e. ready_asked p (sym (ap (λ (x : LbtsView). x.request) view) ∙ e);
      view = view ∙ sym (λ i. record (ready_place p).client { contributions = (view i).contributions; taken = (view i).taken; results = (view i).results });
      few = omega (arith, one, level, contributions);
      base = opened.base sh n n' p q w m h ∙ s.results;
      short = omega (arith, one, results);
      some = omega (arith, one);
      within = inr h.within;
    }

-- and then it was polled
module _ {Q R : Type 0} (sh : Shown Q R) (found did : Bool) (n n' : Node Q R) (p r q : P) (a : RoundStands p r) (h : HasPolled sh found n n' r q)
    (nothing_ : did ≡ false → q.client ≡ p.client) (something_ : did ≡ true → HasLearnt p q) where
  leaves : LeavesSeat p q
  leaves = left_on p r q a.leaves h.leaves

  started : q.client.request ≢ None
  started e = a.asked (sym (ap (λ (x : LbtsView). x.request) h.view) ∙ e)

  view : q.client ≡ record (ready_place p).client { contributions = q.client.contributions; taken = q.client.taken; results = q.client.results }
  view =
      h.view
      ∙ (ap (λ (x : LbtsView). record x { taken = q.client.taken; results = q.client.results }) a.view
      ∙ ap (λ (c : List Contribution). record (ready_place p).client { contributions = c; taken = q.client.taken; results = q.client.results }) (sym h.contributions))

  same_rounds : length q.client.contributions ≡ length r.client.contributions
  same_rounds = ap (λ l. length l) h.contributions

  awaited : IsAwaited r q → IsAwaited p q
  awaited s = record { more = s.more; since = let t = s.since in let l = a.leaves.steps in omega (arith, t, l); unshown = s.unshown }

  still_open : IsStillOpen sh found n n' r q → HasReduced did p q
  still_open s =
      let f = s.under_way.follows in
      let short : length q.client.results ≡ length q.client.contributions - 1 = (let u = (f.under_way s.under_way.more).results in let k = f.round in omega (arith, u, k)) in
      let some_ : 0 < length q.client.contributions = (let z = a.some in let e = same_rounds in omega (arith, z, e)) in
      let on = some_under_way q.client short some_ in
      let kept : take (length p.client.results) q.client.results ≡ p.client.results = (λ i. take (a.short i) (s.results i)) ∙ a.base in
      record {
        leaves = leaves;
        started = started;
        view = inr view;
        one = let z = a.few in let e = same_rounds in omega (arith, z, e);
        kept = kept;
        rounds = inl on;
        looks = λ _. awaited s.awaited;
        within = λ _. (ap bound_in (sym (take_all (length p.client.results) q.client.results (let z = a.short in let e = same_rounds in omega (arith, short, z, e))) ∙ kept), a.within);
        shown = round_shows sh.scheme (sh.state n'.rounds.reduction) q s.under_way on;
        nothing = nothing_;
        something = something_;
      }

  now_closed : IsClosed sh found n n' r q → HasReduced did p q
  now_closed s =
      let before : take (length q.client.contributions - 1) r.client.results ≡ p.client.results = ap (λ (c : ℕ). take (c - 1) r.client.results) same_rounds ∙ a.base in
      record {
        leaves = leaves;
        started = started;
        view = inr view;
        one = let z = a.few in let e = same_rounds in omega (arith, z, e);
        kept =
            ap (take (length p.client.results)) s.results
            ∙ (take_at (take (length q.client.contributions - 1) r.client.results) (s.sum ∷ []) (length p.client.results) (ap (λ (l : List Share). length l) before) ∙ before);
        rounds = inr (inl (let z = a.some in let e = same_rounds in let l = s.level in let b = a.short in omega (arith, z, e, l, b)));
        looks = λ on. absurd (none_under_way q.client s.level on);
        within = λ on. absurd (none_under_way q.client s.level on);
        shown = whole_shows q s.shows;
        nothing = nothing_;
        something = something_;
      }

  pub has_reduced : HasReduced did p q
  has_reduced = elim h.answer [ inl s ↦ still_open s | inr s ↦ now_closed s ]

-- where no round is under way, and none is opened
pub reduced_nothing : {Q R : Type 0} (sh : Shown Q R) (n : Node Q R) (p : P) → Mirrors sh n p → p.client.request ≢ None → n.rounds.under_way ≡ false → p.client.federation.end < n.rounds.bound → HasReduced false p p
reduced_nothing sh n p m asked off past =
    let closed = m.rounds.closed off in
    record {
      leaves = left_here p;
      started = asked;
      view = inl refl;
      one = omega arith;
      kept = take-length p.client.results;
      rounds = inr (inr (let b = m.rounds.bound in omega (arith, past, b)));
      looks = λ on. absurd (none_under_way p.client closed.0 on);
      within = λ on. absurd (none_under_way p.client closed.0 on);
      shown = whole_shows p closed.1;
      nothing = λ _. refl;
      something = λ e. absurd (false≢true e);
    }

-- WHAT IS LEFT of the node
pub coloured_same : {Q R : Type 0} (n : Node Q R) → SameNode n (coloured n)
coloured_same n = by (n.rounds.colour == n.rounds.run)
  where
    by : (b : Bool) → SameNode n (coloured_by n b)
    by true = record { me = refl; limit = refl; turns = refl; ended = refl }
    by false = record { me = refl; limit = refl; turns = refl; ended = refl }

pub coloured_run : {Q R : Type 0} (n : Node Q R) → (coloured n).rounds.run ≡ n.rounds.run
coloured_run n = by (n.rounds.colour == n.rounds.run)
  where
    by : (b : Bool) → (coloured_by n b).rounds.run ≡ n.rounds.run
    by true = refl
    by false = refl

same_opened : {Q R : Type 0} (sh : Shown Q R) (n n' : Node Q R) (p q : P) → HasOpened sh n n' p q → SameNode n n'
same_opened sh n n' p q h =
    let s = coloured_same n in
    subst (λ (x : Node _ _). SameNode n x) (sym h.node) (record { me = s.me; limit = s.limit; turns = s.turns; ended = s.ended })

limit_closed : {R : Type 0} (sum : Share) (r : Rounds R) → (closed_with sum r).limit ≡ r.limit
limit_closed {R} sum r = by (sum.out == sum.inn)
  where
    by : (b : Bool) → (cond b (record r { under_way = false; bound = sum.low; run = r.run + 1 }) (record r { under_way = false })).limit ≡ r.limit
    by true = refl
    by false = refl

same_polled : {Q R : Type 0} (sh : Shown Q R) (found : Bool) (n n' : Node Q R) (p q : P) → HasPolled sh found n n' p q → SameNode n n'
same_polled sh found n n' p q h = elim h.answer [
  | inl s ↦ subst (λ (x : Node _ _). SameNode n x) (sym s.node) (record { me = refl; limit = refl; turns = refl; ended = refl })
  | inr s ↦ subst (λ (x : Node _ _). SameNode n x) (sym s.node) (record { me = refl; limit = limit_closed s.sum n.rounds; turns = refl; ended = refl })
]

pub same_twice : {Q R : Type 0} (a b c : Node Q R) → SameNode a b → SameNode b c → SameNode a c
same_twice a b c s t = record { me = t.me ∙ s.me; limit = t.limit ∙ s.limit; turns = t.turns ∙ s.turns; ended = t.ended ∙ s.ended }

-- WHAT IS LEARNT
learnt_open : {Q R : Type 0} (sh : Shown Q R) (found : Bool) (n n' : Node Q R) (p q : P) → HasPolled sh found n n' p q → length p.client.results < length p.client.contributions → found ≡ true → HasLearnt p q
learnt_open sh found n n' p q h open_ did_ = elim h.answer [
  | inl s ↦ record { more = inr (inr (s.some did_)) }
  | inr s ↦ record { more = inr (inl (let l = s.level in let c = ap (λ l. length l) h.contributions in omega (arith, l, c, open_))) }
]

same_open : {Q R : Type 0} (sh : Shown Q R) (found : Bool) (n n' : Node Q R) (p q : P) → HasPolled sh found n n' p q → found ≡ false → q.client ≡ p.client
same_open sh found n n' p q h none_ = elim h.answer [ inl s ↦ s.none none_ | inr s ↦ s.none none_ ]

-- THE PART: a round was opened or not, and then one that is under way was polled
pub record HasTakenPart {Q R : Type 0} (sh : Shown Q R) (did : Bool) (n n' : Node Q R) (p q : P) : Type 0 where
  pub mirrors : Mirrors sh n' q
  pub reduced : HasReduced did p q
  pub same : SameNode n n'

module _ {Q R : Type 0} (sh : Shown Q R) (f : Parts) (n : Node Q R) (p : P) (w : IsInWorld p) (federation : p.client.federation ≡ f) (m : Mirrors sh n (ready_place p)) where
  -- after a round was opened
  pub part_opened : (found : Bool) (n1 n2 : Node Q R) (r q : P) → IsInWorld q → HasOpened sh n n1 p r → HasPolled sh found n1 n2 r q → HasTakenPart sh true n n2 p q
  part_opened found n1 n2 r q wq h polled =
      let stands = stands_now sh n n1 p r w m h in
      let one = opened.one_more sh n n1 p r w m h in
      let level = opened.level sh n n1 p r w m h in
      let more : length p.client.contributions < length q.client.contributions =
      (let c = ap (λ l. length l) polled.contributions in let t = ap (λ l. length l) (ready_rounds p).contributions in omega (arith, one, level, c, t)) in
      record {
        mirrors = polled_mirrors sh found n1 n2 r q (opened.opened_now sh n n1 p r w m h) polled wq;
        reduced = has_reduced sh found true n1 n2 p r q stands polled (λ e. absurd (false≢true (sym e))) (λ _. record { more = inl more });
        same = same_twice n n1 n2 (same_opened sh n n1 p r h) (same_polled sh found n1 n2 r q polled);
      }

  -- where one was under way
  pub part_goes_on : (found : Bool) (n2 : Node Q R) (q : P) → IsInWorld q → n.rounds.under_way ≡ true → HasPolled sh found n n2 p q → HasTakenPart sh found n n2 p q
  part_goes_on found n2 q wq on polled =
      let asked = opened.asked_under_way sh n p w m on in
      let here = opened.mirrors_asked sh n p w m asked in
      let stands = stands_before sh n p here on asked in
      record {
        mirrors = polled_mirrors sh found n n2 p q (opened.opened_before sh n p here on) polled wq;
        reduced = has_reduced sh found found n n2 p p q stands polled (same_open sh found n n2 p q polled)
            (learnt_open sh found n n2 p q polled (let s = stands.short in let z = stands.some in omega (arith, s, z)));
        same = same_polled sh found n n2 p q polled;
      }

  -- and where none is
  pub part_rests : n.rounds.under_way ≡ false → f.end < n.rounds.bound → HasTakenPart sh false n n p p
  part_rests off past =
      let asked = opened.asked_with_bound sh n p w m off (omega (arith, past)) in
      let here = opened.mirrors_asked sh n p w m asked in
      record {
        mirrors = here;
        reduced = reduced_nothing sh n p here asked off (let e = ap (λ (x : Parts). x.end) federation in omega (arith, e, past));
        same = record { me = refl; limit = refl; turns = refl; ended = refl };
      }

  module _ (found : Bool) (n1 n2 : Node Q R) (r q : P) (wq : IsInWorld q) (idle : n1.rounds.under_way ≡ false → (found ≡ false) × (n2 ≡ n1) × (q ≡ r))
      (polled : n1.rounds.under_way ≡ true → HasPolled sh found n1 n2 r q) where
    with_opened : HasOpened sh n n1 p r → HasTakenPart sh true n n2 p q
    with_opened h = part_opened found n1 n2 r q wq h (polled (ap (λ (x : Node Q R). x.rounds.under_way) h.node))

    abbrev Polls : Node Q R → P → Type 0
    Polls k x = (k.rounds.under_way ≡ false → (found ≡ false) × (n2 ≡ k) × (q ≡ x)) × (k.rounds.under_way ≡ true → HasPolled sh found k n2 x q)

    without_opened : (n1 ≡ n) × (r ≡ p) × IsPastOpening n f.end → HasTakenPart sh found n n2 p q
    without_opened none =
        let polls : Polls n p = subst (λ (x : Node Q R × P). Polls x.0 x.1) (λ i. (none.0 i, none.1 i)) (idle, polled) in
        by n.rounds.under_way refl polls none.2
      where
        by : (b : Bool) → n.rounds.under_way ≡ b → Polls n p → IsPastOpening n f.end → HasTakenPart sh found n n2 p q
        by true on polls past = part_goes_on found n2 q wq on (polls.1 on)
        by false off polls past =
            let rest = polls.0 off in
            let bound : f.end < n.rounds.bound = elim past [ inl on ↦ absurd (false≢true (sym off ∙ on)) | inr late ↦ late ] in
            subst (λ (x : Bool × Node Q R × P). HasTakenPart sh x.0 n x.1 p x.2) (λ i. (sym rest.0 i, sym rest.1 i, sym rest.2 i)) (part_rests off bound)

    pub takes_part : (did : Bool) → (did ≡ true → HasOpened sh n n1 p r) → (did ≡ false → (n1 ≡ n) × (r ≡ p) × IsPastOpening n f.end) → HasTakenPart sh (did || found) n n2 p q
    takes_part true some_ none = with_opened (some_ refl)
    takes_part false some_ none = without_opened (none refl)

  -- the round that is under way then may be polled
  pub polls_then : (did : Bool) (n1 : Node Q R) (r : P) → (did ≡ true → HasOpened sh n n1 p r) → (did ≡ false → (n1 ≡ n) × (r ≡ p) × IsPastOpening n f.end) → n1.rounds.under_way ≡ true
      → FollowsRound sh.scheme (sh.state n1.rounds.reduction) r × SlotsShowRound sh.scheme (sh.state n1.rounds.reduction) r
  polls_then true n1 r some_ none on = let h = some_ refl in (h.follows, h.shown)
  polls_then false n1 r some_ none on =
      let same = none refl in
      let on_before : n.rounds.under_way ≡ true = ap (λ (x : Node Q R). x.rounds.under_way) (sym same.0) ∙ on in
      let here = opened.mirrors_asked sh n p w m (opened.asked_under_way sh n p w m on_before) in
      let u = here.rounds.under_way on_before in
      subst (λ (x : Node Q R × P). FollowsRound sh.scheme (sh.state x.0.rounds.reduction) x.1 × SlotsShowRound sh.scheme (sh.state x.0.rounds.reduction) x.1) (λ i. (sym same.0 i, sym same.1 i)) (u.follows, u.shown)

  pub runs_then : (did : Bool) (n1 : Node Q R) (r : P) → (did ≡ true → HasOpened sh n n1 p r) → (did ≡ false → (n1 ≡ n) × (r ≡ p) × IsPastOpening n f.end) → n1.rounds.run + 1 < 2 ^ 64
  runs_then true n1 r some_ none =
      let e : n1.rounds.run ≡ n.rounds.run = ap (λ (x : Node Q R). x.rounds.run) (some_ refl).node ∙ coloured_run n in
      let small = opened.runs_small sh n p w m in
      omega (arith, e, small)
  runs_then false n1 r some_ none =
      let e : n1.rounds.run ≡ n.rounds.run = ap (λ (x : Node Q R). x.rounds.run) (none refl).0 in
      let small = opened.runs_small sh n p w m in
      omega (arith, e, small)
