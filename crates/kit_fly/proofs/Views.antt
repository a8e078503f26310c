-- What a look at the next register does to the view, and to what a reduction keeps.
use Rattle.std.proofs.Common.{◌≡◌, ◌≢◌, ℕ, ◌+◌, ◌-◌, ◌/◌, ◌%◌, ◌^◌, ◌<◌, ◌≤◌, ◌==◌, ◌&&◌, nat_lt, inl, inr, Bool, true, false, cond, List, [], ◌∷◌, ◌++◌, length, get_or, fold, refl, sym, ap, ◌∙◌, arith, eq-eqb}
use Rattle.std.specs.Prelude.{Some, slice_get}
use Rattle.std.proofs.lemmas.Bool.{cases_lt, and_from, lt-ltb, le-ltb, ne_eqb}
use Rattle.std.proofs.lemmas.List.{length_push, get_or_push}
use Rattle.std.proofs.lemmas.List.Sums.{fold_push}
use Rattle.std.proofs.lemmas.Option.{slice_get-get_or}
use Rattle.kit_ground.specs.declared.address.Reg.{Reg}
use Rattle.kit_ground.specs.declared.place.Place.{Place}
use Rattle.kit_model.specs.declared.share.Share.{Share}
use Rattle.kit_model.specs.Blocks.{width}
use Rattle.kit_model.specs.Shares.{Shows, share_of, share_sum}
use Rattle.kit_lbts.specs.declared.view.Scheme.{Scheme}
use Rattle.kit_lbts.specs.declared.view.Scheme.TheVariants.{Flat, Butterfly}
use Rattle.kit_lbts.specs.declared.view.LbtsView.{LbtsView}
use Rattle.kit_lbts.specs.Progress.{is_under_way, own_share, shows_next, view_after_close, view_after_look}
use Rattle.kit_lbts.specs.Promises.{result_at, unknown}
use Rattle.kit_lbts.specs.Reduction.{Source, handed_back, next_source, reg_of, share_with_taken, source, sources}
use Rattle.kit_fly.specs.Rounds.{FollowsRound, IsUnderWay, RoundState, all_registers, register_after, register_in}
use Rattle.kit_fly.proofs.Sources.{inner_is, outer_is}

abbrev P : Type 0
P = Place LbtsView

-- ---- the close of a round
abbrev pub view_closed : ℕ → ℕ → LbtsView → LbtsView
view_closed n j v = record v { results = v.results ++ share_with_taken v.scheme n j (own_share v) v.taken ∷ []; taken = [] }

pub under_way_is : (v : LbtsView) → length v.contributions ≡ length v.results + 1 → is_under_way v ≡ true
under_way_is v e =
    and_from (length v.results == length v.contributions - 1) (nat_lt 0 (length v.contributions))
    (eq-eqb (length v.results) (length v.contributions - 1) (omega (arith, e))) (lt-ltb 0 (length v.contributions) (omega (arith, e)))

pub not_under_way : (v : LbtsView) → length v.contributions ≡ length v.results → is_under_way v ≡ false
not_under_way v e = elim (cases_lt 0 (length v.contributions)) [
  | inl some ↦ ap (λ b. b && nat_lt 0 (length v.contributions)) (ne_eqb (length v.results) (length v.contributions - 1) (λ h. omega (arith, h, e, some)))
  | inr none ↦ ap (λ b. (length v.results == length v.contributions - 1) && b) (le-ltb 0 (length v.contributions) none) ∙ none_of (length v.results == length v.contributions - 1)
]
  where
    none_of : (b : Bool) → (b && false) ≡ false
    none_of true = refl
    none_of false = refl

module _ (n j : ℕ) (v : LbtsView) where
  abbrev by_test : Bool → LbtsView
  by_test b = cond b (view_closed n j v) v

  pub closes_whole : is_under_way v ≡ true → length v.taken ≡ length (sources v.scheme n j) → view_after_close n j v ≡ view_closed n j v
  closes_whole way all = ap by_test (and_from (is_under_way v) (length v.taken == length (sources v.scheme n j)) way (eq-eqb (length v.taken) (length (sources v.scheme n j)) all))

  pub closes_no_part : length v.taken ≢ length (sources v.scheme n j) → view_after_close n j v ≡ v
  closes_no_part part = ap (λ b. by_test (is_under_way v && b)) (ne_eqb (length v.taken) (length (sources v.scheme n j)) part) ∙ ap by_test (none_of (is_under_way v))
    where
      none_of : (b : Bool) → (b && false) ≡ false
      none_of true = refl
      none_of false = refl

  pub closes_no_more : is_under_way v ≡ false → view_after_close n j v ≡ v
  closes_no_more way = ap (λ b. by_test (b && length v.taken == length (sources v.scheme n j))) way

-- ---- the share with one more taken in
last_of : (own s : Share) (l : List Share) → l ≡ [] → handed_back own (l ++ s ∷ []) ≡ s
last_of own s l e = ap (λ x. handed_back own (x ++ s ∷ [])) e

pub flat_added : (n x : ℕ) (own s : Share) (l : List Share) → share_with_taken Flat n x own (l ++ s ∷ []) ≡ share_sum (share_with_taken Flat n x own l) s
flat_added n x own s l = fold_push share_sum own l s

pub inner_added : (n x : ℕ) (own s : Share) (l : List Share) → x < width n → share_with_taken Butterfly n x own (l ++ s ∷ []) ≡ share_sum (share_with_taken Butterfly n x own l) s
inner_added n x own s l inside =
    ap (λ b. cond b (handed_back own (l ++ s ∷ [])) (fold share_sum own (l ++ s ∷ []))) (inner_is n x inside)
    ∙ (fold_push share_sum own l s ∙ ap (λ b. share_sum (cond b (handed_back own l) (fold share_sum own l)) s) (sym (inner_is n x inside)))

pub outer_added : (n x : ℕ) (own s : Share) (l : List Share) → width n ≤ x → length l ≡ 0 → share_with_taken Butterfly n x own (l ++ s ∷ []) ≡ s
outer_added n x own s l out none =
    ap (λ b. cond b (handed_back own (l ++ s ∷ [])) (fold share_sum own (l ++ s ∷ []))) (outer_is n x out) ∙ last_of own s l (by_list l none)
  where
    by_list : (l : List Share) → length l ≡ 0 → l ≡ []
    by_list [] h = refl
    by_list (x ∷ xs) h = absurd (omega (arith, h))

-- ---- a look
slice_get_at : (ss : List Source) (l : ℕ) → l < length ss → slice_get ss l ≡ Some (get_or ss l (source 0 0))
slice_get_at ss l lt = slice_get-get_or ss l (source 0 0) lt

abbrev pub with_share : Share → LbtsView → LbtsView
with_share s v = record v { taken = v.taken ++ s ∷ [] }

-- the state with one register more
abbrev pub next_state : RoundState → Share → RoundState
next_state k value = record { federates = k.federates; number = k.number; round = k.round; value = value; taken = k.taken + 1 }

module _ (scheme : Scheme) (k : RoundState) (q : P) (f : FollowsRound scheme k q) where
  pub closes_nothing : view_after_close q.own.federates q.own.number q.client ≡ q.client
  closes_nothing = elim (cases_lt k.taken (all_registers scheme k)) [
    | inl less ↦
        let u = f.under_way less in
        closes_no_part q.own.federates q.own.number q.client (λ e. let all = all_is in omega (arith, all, e, u.taken, less))
    | inr ge ↦ let c = f.closed (omega (arith, ge, f.few)) in closes_no_more q.own.federates q.own.number q.client (not_under_way q.client (f.round ∙ sym c.results))
  ]
    where
      all_is : length (sources q.client.scheme q.own.federates q.own.number) ≡ all_registers scheme k
      all_is = λ i. length (sources (f.scheme_is i) (f.federates i) (f.number i))

  module _ (less : k.taken < all_registers scheme k) where
    abbrev n : ℕ
    n = q.own.federates

    abbrev x : ℕ
    x = q.own.number

    under_way : IsUnderWay scheme k q
    under_way = f.under_way less

    all_is : length (sources q.client.scheme q.own.federates q.own.number) ≡ all_registers scheme k
    all_is = λ i. length (sources (f.scheme_is i) (f.federates i) (f.number i))

    pub way : is_under_way q.client ≡ true
    way = under_way_is q.client (f.round ∙ sym under_way.results)

    -- the next source is that of the next register
    next_is : next_source q.client.scheme q.own.federates q.own.number (length q.client.taken) ≡ Some (get_or (sources q.client.scheme q.own.federates q.own.number) (length q.client.taken) (source 0 0))
    next_is = slice_get_at (sources q.client.scheme n x) (length q.client.taken) (let all = all_is in omega (arith, all, under_way.taken, less))

    reg_is : let s = get_or (sources q.client.scheme q.own.federates q.own.number) (length q.client.taken) (source 0 0) in reg_of s.owner s.stage (length q.client.contributions) ≡ register_after scheme k k.taken
    reg_is = λ i. register_in (f.scheme_is i) (f.federates i) (f.number i) (f.round i) (under_way.taken i)

    -- with it the share is taken in
    pub look_found : (word : ℕ) → Shows word k.round → view_after_look (register_after scheme k k.taken) word q ≡ view_after_close q.own.federates q.own.number (with_share (share_of word).0 q.client)
    look_found word shows =
        let s = get_or (sources q.client.scheme n x) (length q.client.taken) (source 0 0) in
        let reg = reg_of s.owner s.stage (length q.client.contributions) in
        let yes = view_after_close n x (with_share (share_of word).0 q.client) in
        let tag : (word / 2 ^ 61 == length q.client.contributions % 8) ≡ true = eq-eqb (word / 2 ^ 61) (length q.client.contributions % 8) (shows ∙ ap (λ r. r % 8) (sym f.round)) in
        let here : (reg.owner == reg.owner && reg.slot == reg.slot) ≡ true = and_from (reg.owner == reg.owner) (reg.slot == reg.slot) (eq-eqb reg.owner reg.owner refl) (eq-eqb reg.slot reg.slot refl) in
        let test : shows_next (Some s) (length q.client.contributions) reg word ≡ true = and_from (reg.owner == reg.owner && reg.slot == reg.slot) (word / 2 ^ 61 == length q.client.contributions % 8) here tag in
        ap (λ r. view_after_look r word q) (sym reg_is)
        ∙ (ap (λ o. cond (is_under_way q.client && shows_next o (length q.client.contributions) reg word) yes q.client) next_is
        ∙ ap (λ b. cond b yes q.client) (and_from (is_under_way q.client) (shows_next (Some s) (length q.client.contributions) reg word) way test))

    -- without it nothing is
    pub look_unfound : (reg : Reg) (word : ℕ) → ¬ Shows word k.round → view_after_look reg word q ≡ q.client
    look_unfound reg word unshown =
        let s = get_or (sources q.client.scheme n x) (length q.client.taken) (source 0 0) in
        let at = reg_of s.owner s.stage (length q.client.contributions) in
        let yes = view_after_close n x (with_share (share_of word).0 q.client) in
        let tag : (word / 2 ^ 61 == length q.client.contributions % 8) ≡ false = ne_eqb (word / 2 ^ 61) (length q.client.contributions % 8) (λ e. unshown (e ∙ ap (λ r. r % 8) f.round)) in
        ap (λ o. cond (is_under_way q.client && shows_next o (length q.client.contributions) reg word) yes q.client) next_is
        ∙ (ap (λ b. cond (is_under_way q.client && ((reg.owner == at.owner && reg.slot == at.slot) && b)) yes q.client) tag
        ∙ ap (λ b. cond b yes q.client) (ends (is_under_way q.client) (reg.owner == at.owner && reg.slot == at.slot)))
      where
        ends : (a b : Bool) → (a && (b && false)) ≡ false
        ends true true = refl
        ends true false = refl
        ends false true = refl
        ends false false = refl

    -- the state with one register more follows the view with its share
    pub follows_on : (s value : Share) (r : P) → r.own.federates ≡ q.own.federates → r.own.number ≡ q.own.number → r.client ≡ view_after_close q.own.federates q.own.number (with_share s q.client)
        → value ≡ share_with_taken scheme k.federates k.number (own_share q.client) (q.client.taken ++ s ∷ []) → FollowsRound scheme (next_state k value) r
    follows_on s value r federates number view value_is = elim (cases_lt (k.taken + 1) (all_registers scheme k)) [
      | inl part ↦
          let same : r.client ≡ with_share s q.client = view ∙ closes_no_part n x (with_share s q.client) (λ e. let all = all_is in omega (arith, e, all, long, under_way.taken, part)) in
          record {
            scheme_is = (λ i. (same i).scheme) ∙ f.scheme_is;
            federates = federates ∙ f.federates;
            number = number ∙ f.number;
            started = f.started;
            round = (λ i. length (same i).contributions) ∙ f.round;
            few = omega (arith, part);
            under_way = λ _. record {
              results = (λ i. length (same i).results + 1) ∙ under_way.results;
              taken = (λ i. length (same i).taken) ∙ omega (arith, long, under_way.taken);
              value = value_is ∙ sym (λ i. share_with_taken scheme k.federates k.number (own_share (same i)) (same i).taken);
            };
            closed = λ e. absurd (omega (arith, e, part));
          }
      | inr whole ↦
          let full : length (q.client.taken ++ s ∷ []) ≡ length (sources q.client.scheme n x) = let all = all_is in omega (arith, all, long, under_way.taken, whole, less) in
          let same : r.client ≡ view_closed n x (with_share s q.client) = view ∙ closes_whole n x (with_share s q.client) way full in
          let last : Share = share_with_taken q.client.scheme n x (own_share q.client) (q.client.taken ++ s ∷ []) in
          let many = length_push q.client.results last in
          record {
            scheme_is = (λ i. (same i).scheme) ∙ f.scheme_is;
            federates = federates ∙ f.federates;
            number = number ∙ f.number;
            started = f.started;
            round = (λ i. length (same i).contributions) ∙ f.round;
            few = omega (arith, less);
            under_way = λ lt. absurd (omega (arith, lt, whole));
            closed = λ _. record {
              results = (λ i. length (same i).results) ∙ omega (arith, many, under_way.results);
              value =
                  value_is
                  ∙ (sym (λ i. share_with_taken (f.scheme_is i) (f.federates i) (f.number i) (own_share q.client) (q.client.taken ++ s ∷ []))
                  ∙ (sym (get_or_push q.client.results last unknown (k.round - 1) (omega (arith, under_way.results)))
                  ∙ sym (λ i. result_at (same i) (k.round - 1))));
            };
          }
    ]
      where
        long : length (q.client.taken ++ s ∷ []) ≡ length q.client.taken + 1
        long = length_push q.client.taken s
