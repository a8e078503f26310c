-- What a poll of the round that is under way comes to, for a node.
use Rattle.std.proofs.Common.{◌≡◌, ◌≢◌, ℕ, ◌+◌, ◌-◌, ◌<◌, ◌==◌, ◌&&◌, inl, inr, ◌⊎◌, Bool, true, false, cond, not, eq-eqb, List, [], ◌∷◌, ◌++◌, length, get_or, take, refl, sym, ap, ◌∙◌, subst, arith}
use Rattle.std.proofs.Math.Seq.{take-length}
use Rattle.std.proofs.lemmas.Bool.{eqb-true, true≢false}
use Rattle.std.proofs.lemmas.List.{append-nil, length-append, length_push, take-append-le, take_more}
use Rattle.kit_ground.specs.declared.address.Reg.{Reg}
use Rattle.kit_ground.specs.declared.place.Place.{Place}
use Rattle.kit_model.specs.declared.share.Share.{Share}
use Rattle.kit_model.specs.Shares.{Shows}
use Rattle.kit_lbts.specs.declared.view.LbtsView.{LbtsView}
use Rattle.kit_lbts.specs.Progress.{is_under_way, own_share, view_after_close}
use Rattle.kit_lbts.specs.Promises.{unknown}
use Rattle.kit_lbts.specs.Reduction.{share_with_taken, sources}
use Rattle.kit_fly.specs.Polls.{IsNotYet, IsResult, TakesIn, look_at}
use Rattle.kit_fly.specs.Rounds.{FollowsRound, LeavesSeat, RoundState, SlotsShowRound, all_registers, register_after, register_in}
use Rattle.kit_fly.proofs.Rounds.{whole_rounds_show}
use Rattle.kit_node.specs.declared.node.Node.{Node}
use Rattle.kit_node.specs.declared.rounds.Rounds.{Rounds}
use Rattle.kit_node.specs.Fields.{closed_with}
use Rattle.kit_node.specs.Frames.{IsSince}
use Rattle.kit_node.specs.Mirrors.{Shown}
use Rattle.kit_node.specs.Reducing.{HasPolled, IsAwaited, IsClosed, IsStillOpen, next_register}

abbrev P : Type 0
P = Place LbtsView

none_are : {X : Type 0} (l : List X) → length l ≡ 0 → l ≡ []
none_are [] e = refl
none_are (x ∷ xs) e = absurd (omega (arith, e))

-- whether another number was found
pub found_none : (a b : ℕ) → not (a == b) ≡ false → a ≡ b
found_none a b = by (a == b) refl
  where
    by : (e : Bool) → (a == b) ≡ e → not e ≡ false → a ≡ b
    by true is h = eqb-true a b is
    by false is h = absurd (true≢false h)

pub found_some : (a b : ℕ) → not (a == b) ≡ true → a ≢ b
found_some a b h is = true≢false (sym h ∙ ap not (eq-eqb a b is))

-- the last of a list stands behind those before it
last_behind : (l : List Share) (c : ℕ) → 0 < c → length l ≡ c → l ≡ take (c - 1) l ++ get_or l (c - 1) unknown ∷ []
last_behind l c some_ long =
    let more = take_more l (c - 1) unknown (omega (arith, some_, long)) in
    let at : c - 1 + 1 ≡ length l = omega (arith, some_, long) in
    sym (take-length l) ∙ (ap (λ (k : ℕ). take k l) (sym at) ∙ more)

-- what is taken in closes the round or leaves it
pub closes_or_not : (n j : ℕ) (v : LbtsView) → (view_after_close n j v ≡ v) ⊎ ((x : Share) × (view_after_close n j v ≡ record v { results = v.results ++ x ∷ []; taken = [] }))
closes_or_not n j v = by (is_under_way v && length v.taken == length (sources v.scheme n j))
  where
    by : (b : Bool) → (cond b (record v { results = v.results ++ share_with_taken v.scheme n j (own_share v) v.taken ∷ []; taken = [] }) v ≡ v)
        ⊎ ((x : Share) × (cond b (record v { results = v.results ++ share_with_taken v.scheme n j (own_share v) v.taken ∷ []; taken = [] }) v ≡ record v { results = v.results ++ x ∷ []; taken = [] }))
    by true = inr (share_with_taken v.scheme n j (own_share v) v.taken, refl)
    by false = inl refl

-- of a view only what was taken in and the results are others
view_of : (v u : LbtsView) (taken results : List Share) → u ≡ record v { taken = taken; results = results } → u ≡ record v { taken = u.taken; results = u.results }
view_of v u taken results e = e ∙ sym (λ i. record v { taken = (e i).taken; results = (e i).results })

pub close_reduction : {R : Type 0} (s : Share) (r : Rounds R) (x : R) → closed_with s (record r { reduction = x }) ≡ record (closed_with s r) { reduction = x }
close_reduction {R} s r x = by (s.out == s.inn)
  where
    by : (b : Bool) → cond b (record r { reduction = x; under_way = false; bound = s.low; run = r.run + 1 }) (record r { reduction = x; under_way = false })
        ≡ record (cond b (record r { under_way = false; bound = s.low; run = r.run + 1 }) (record r { under_way = false })) { reduction = x }
    by true = refl
    by false = refl

module _ {Q R : Type 0} (sh : Shown Q R) (n n' : Node Q R) (p q : P) (leaves : LeavesSeat p q) (before : FollowsRound sh.scheme (sh.state n.rounds.reduction) p)
    (takes : TakesIn sh.scheme (sh.state n.rounds.reduction) (sh.state n'.rounds.reduction) p q) (after : FollowsRound sh.scheme (sh.state n'.rounds.reduction) q)
    (shown : SlotsShowRound sh.scheme (sh.state n'.rounds.reduction) q) where
  abbrev k : RoundState
  k = sh.state n.rounds.reduction

  abbrev k' : RoundState
  k' = sh.state n'.rounds.reduction

  abbrev grown : LbtsView
  grown = record p.client { taken = p.client.taken ++ takes.shares }

  cases : (q.client ≡ grown) ⊎ ((x : Share) × (q.client ≡ record p.client { taken = []; results = p.client.results ++ x ∷ [] }))
  cases = elim (closes_or_not p.own.federates p.own.number grown) [
    | inl e ↦ inl (takes.view ∙ e)
    | inr t ↦ inr (t.0, takes.view ∙ t.1)
  ]

  view_is : q.client ≡ record p.client { taken = q.client.taken; results = q.client.results }
  view_is = elim cases [
    | inl e ↦ view_of p.client q.client (p.client.taken ++ takes.shares) p.client.results e
    | inr t ↦ view_of p.client q.client [] (p.client.results ++ t.0 ∷ []) t.1
  ]

  contributions_are : q.client.contributions ≡ p.client.contributions
  contributions_are = ap (λ (v : LbtsView). v.contributions) view_is

  all_same : all_registers sh.scheme k' ≡ all_registers sh.scheme k
  all_same = λ i. all_registers sh.scheme (record k' { federates = takes.federates i; number = takes.number i })

  polled : (found : Bool) → IsStillOpen sh found n n' p q ⊎ IsClosed sh found n n' p q → HasPolled sh found n n' p q
  polled found answer = record { leaves = leaves; federates = takes.federates; number = takes.number; view = view_is; contributions = contributions_are; answer = answer }

  module _ (more : k'.taken < all_registers sh.scheme k') where
    -- the round was under way before, so it was not closed
    open_before : k.taken < all_registers sh.scheme k
    open_before = let m = takes.many in let a = all_same in omega (arith, m, a, more)

    still : q.client ≡ grown
    still = elim cases [
      | inl e ↦ e
      | inr t ↦ let a = (before.under_way open_before).results in
          let b = (after.under_way more).results in
          let l : length q.client.results ≡ length (p.client.results ++ t.0 ∷ []) = ap (λ (v : LbtsView). length v.results) t.1 in
          let m = length_push p.client.results t.0 in
          let r = takes.round in
          absurd (omega (arith, a, b, l, m, r))
    ]

    taken_longer : length q.client.taken ≡ length p.client.taken + length takes.shares
    taken_longer = ap (λ (v : LbtsView). length v.taken) still ∙ length-append p.client.taken takes.shares

    same_where_none : k'.taken ≡ k.taken → q.client ≡ p.client
    same_where_none e =
        let m = takes.many in
        let none : takes.shares ≡ [] = none_are takes.shares (omega (arith, m, e)) in
        still ∙ ap (λ (l : List Share). record p.client { taken = l }) (ap (λ (l : List Share). p.client.taken ++ l) none ∙ append-nil p.client.taken)

    register_is : next_register q ≡ register_after sh.scheme k' k'.taken
    register_is = let u = after.under_way more in λ i. register_in (after.scheme_is i) (after.federates i) (after.number i) (after.round i) (u.taken i)

    module _ (reg : Reg) (answer : IsNotYet sh.scheme reg k k' p q) where
      awaited : IsAwaited p q
      awaited =
          let u = after.under_way more in
          let at : reg ≡ next_register q = answer.next ∙ sym register_is in
          record {
            more = subst (λ (x : ℕ). x < length (sources q.client.scheme q.own.federates q.own.number)) (sym u.taken)
                (subst (λ (x : ℕ). k'.taken < x) (sym (λ i. length (sources (after.scheme_is i) (after.federates i) (after.number i)))) more);
            since = subst (λ (r : Reg). IsSince p (look_at q r)) at answer.since;
            unshown = subst (λ (r : ℕ). Shows (look_at q (next_register q)).gave r → ⊥) (sym takes.round ∙ sym after.round)
                (subst (λ (r : Reg). Shows (look_at q r).gave k.round → ⊥) at answer.unshown);
          }

      pub polled_open : (found : Bool) → (found ≡ false → k'.taken ≡ k.taken) → (found ≡ true → k'.taken ≢ k.taken)
          → n' ≡ record n { rounds = record n.rounds { reduction = n'.rounds.reduction } } → HasPolled sh found n n' p q
      polled_open found none some_ node = polled found (inl (record {
        under_way = record { follows = after; shown = shown; more = more };
        awaited = awaited;
        results = ap (λ (v : LbtsView). v.results) still;
        none = λ e. same_where_none (none e);
        some = λ e. more_taken (some_ e);
        node = node;
      }))
        where
          more_taken : k'.taken ≢ k.taken → length p.client.taken < length q.client.taken
          more_taken other = by takes.shares takes.many taken_longer
            where
              by : (l : List Share) → k'.taken ≡ k.taken + length l → length q.client.taken ≡ length p.client.taken + length l → length p.client.taken < length q.client.taken
              by [] m long = absurd (other (omega (arith, m)))
              by (x ∷ xs) m long = omega (arith, long)

  before_last : length q.client.results ≡ length q.client.contributions → take (length q.client.contributions - 1) q.client.results ≡ take (length q.client.contributions - 1) p.client.results
  before_last long = elim cases [
    | inl e ↦ ap (λ (v : LbtsView). take (length q.client.contributions - 1) v.results) e
    | inr t ↦
        let l : length q.client.results ≡ length (p.client.results ++ t.0 ∷ []) = ap (λ (v : LbtsView). length v.results) t.1 in
        let m = length_push p.client.results t.0 in
        ap (λ (l : List Share). take (length q.client.contributions - 1) l) (ap (λ (v : LbtsView). v.results) t.1) ∙ take-append-le (length q.client.contributions - 1) p.client.results (t.0 ∷ []) (omega (arith, l, m, long))
  ]

  -- a round that is closed with no register more was closed before
  closed_same : k'.taken ≡ all_registers sh.scheme k' → length q.client.results ≡ length q.client.contributions → k'.taken ≡ k.taken → q.client ≡ p.client
  closed_same all long same =
      let m = takes.many in
      let nothing_ : takes.shares ≡ [] = none_are takes.shares (omega (arith, m, same)) in
      let plain : grown ≡ p.client = ap (λ (l : List Share). record p.client { taken = l }) (ap (λ (l : List Share). p.client.taken ++ l) nothing_ ∙ append-nil p.client.taken) in
      elim cases [
        | inl e ↦ e ∙ plain
        | inr t ↦
            let whole : k.taken ≡ all_registers sh.scheme k = sym same ∙ (all ∙ all_same) in
            let a = (before.closed whole).results in
            let l : length q.client.results ≡ length (p.client.results ++ t.0 ∷ []) = ap (λ (v : LbtsView). length v.results) t.1 in
            let push = length_push p.client.results t.0 in
            let r = takes.round in
            let c = after.round in
            absurd (omega (arith, a, l, push, r, c, long))
      ]

  pub polled_closed : (found : Bool) (sum : Share) → (found ≡ false → k'.taken ≡ k.taken) → IsResult sh.scheme sum k' q
      → n' ≡ record n { rounds = record (closed_with sum n.rounds) { reduction = n'.rounds.reduction } } → HasPolled sh found n n' p q
  polled_closed found sum none answer node =
      let c : ℕ = length q.client.contributions in
      let some_ : 0 < c = let s = after.started in let r = after.round in omega (arith, s, r) in
      let long = answer.results in
      let behind = last_behind q.client.results c some_ long in
      let last : get_or q.client.results (c - 1) unknown ≡ sum = sym (answer.last ∙ ap (λ (l : ℕ). get_or q.client.results (l - 1) unknown) long) in
      polled found (inr (record {
        sum = sum;
        none = λ e. closed_same answer.all long (none e);
        level = sym long;
        shows = whole_rounds_show sh.scheme k' q after shown answer.all;
        results = behind ∙ (λ i. before_last long i ++ last i ∷ []);
        node = node;
      }))
