-- How far a poll has come, and what one more look, or a publish, leads to.
use Rattle.std.proofs.Common.{◌≡◌, ◌≢◌, ℕ, ◌+◌, ◌-◌, ◌*◌, ◌%◌, ◌<◌, ◌≤◌, ◌==◌, inl, inr, Bool, true, false, cond, [], ◌∷◌, ◌++◌, length, get_or, set, refl, sym, ap, subst, ◌∙◌, arith, append-nil, append_assoc, get_or-set_same, get_or-set_other, length-append}
use Rattle.std.proofs.lemmas.Bool.{cases_lt, cases_eq, eqb-true, ne_eqb}
use Rattle.std.proofs.lemmas.List.{length_push, get_or_push, get_or_append_left}
use Rattle.std.proofs.Math.Path.{subst₂}
use Rattle.std.specs.Prelude.{slice_index, Option, Some, None}
use Rattle.kit_ground.specs.declared.address.Reg.{Reg}
use Rattle.kit_ground.specs.declared.place.Deed.TheVariants.{Looked, Published}
use Rattle.kit_ground.specs.declared.place.Glance.{Glance}
use Rattle.kit_ground.specs.declared.place.Place.{Place}
use Rattle.kit_ground.specs.Rules.{OwnFits}
use Rattle.kit_ground.specs.Steps.{IsReg, place_after, reg_index}
use Rattle.kit_ground.proofs.Lists.{at_inside}
use Rattle.kit_model.specs.declared.share.Share.{Share}
use Rattle.kit_model.specs.Shares.{FitsWord, Shows, share_of, share_word}
use Rattle.kit_model.proofs.Packing.{shares_come_back_law}
use Rattle.kit_lbts.specs.declared.view.Scheme.{Scheme}
use Rattle.kit_lbts.specs.declared.view.Scheme.TheVariants.{Flat, Butterfly}
use Rattle.kit_lbts.specs.declared.view.LbtsView.{LbtsView}
use Rattle.kit_lbts.specs.Progress.{own_share, view_after, view_after_close, view_after_publish}
use Rattle.kit_lbts.specs.Promises.{result_at, unknown}
use Rattle.kit_lbts.specs.Reduction.{shares_needed, publishes, reg_of, share_stage, share_with_taken, sources}
use Rattle.kit_lbts.specs.SeatLaws.{IsInWorld}
use Rattle.kit_fly.specs.Rounds.{FollowsRound, LeavesSeat, LeavesSlots, RoundState, SlotsShowRound, all_registers, register_after, register_in, shown_word}
use Rattle.kit_fly.specs.Polls.{IsNew, IsNotYet, IsResult, TakesIn, look_after, look_at}
use Rattle.kit_fly.specs.Looks.{HasLooked}
use Rattle.kit_fly.specs.Shows.{HoldsValue, IsPublished, ShowsDue}
use Rattle.kit_fly.specs.Stages.{IsDue, IsDueSlot}
use Rattle.kit_fly.proofs.Sources.{index_differs, is_reg, registers_differ}
use Rattle.kit_fly.proofs.Fits.{value_fits_word}
use Rattle.kit_fly.proofs.Views.{closes_no_part, closes_nothing, follows_on, look_found, look_unfound, next_state, with_share}

abbrev P : Type 0
P = Place LbtsView

pub left_here : (p : P) → LeavesSeat p p
left_here p = record { number = refl; federates = refl; buffers = refl; steps = omega arith; stops = refl; counts = refl; mail = refl; stop = refl; collects = refl; stock = refl }

pub left_on : (p q r : P) → LeavesSeat p q → LeavesSeat q r → LeavesSeat p r
left_on p q r a b = record {
  number = b.number ∙ a.number;
  federates = b.federates ∙ a.federates;
  buffers = b.buffers ∙ a.buffers;
  steps = let x = a.steps in let y = b.steps in omega arith;
  stops = b.stops ∙ a.stops;
  counts = b.counts ∙ a.counts;
  mail = b.mail ∙ a.mail;
  stop = b.stop ∙ a.stop;
  collects = b.collects ∙ a.collects;
  stock = b.stock ∙ a.stock;
}

pub look_left : (q : P) (reg : Reg) (word : ℕ) → LeavesSeat q (place_after view_after (Looked reg word) q)
look_left q reg word = record { number = refl; federates = refl; buffers = refl; steps = omega arith; stops = refl; counts = refl; mail = refl; stop = refl; collects = refl; stock = refl }

pub publish_left : (q : P) (reg : Reg) (word : ℕ) → LeavesSeat q (place_after view_after (Published reg word) q)
publish_left q reg word = record { number = refl; federates = refl; buffers = refl; steps = omega arith; stops = refl; counts = refl; mail = refl; stop = refl; collects = refl; stock = refl }

-- what a world tells of the seat's lists
pub own_in : (p : P) → (w : IsInWorld p) → OwnFits w.0 (length w.1) p.own.buffers p.own.number p.own
own_in p w = w.2.floor.each p.own.number p w.2.here

pub seat_in : (p : P) → IsInWorld p → (p.own.number < p.own.federates) × (p.own.federates ≤ 16)
seat_in p w =
    let inside = at_inside w.1 p.own.number p w.2.here in
    let many = (own_in p w).federates in
    let few = w.2.floor.few in
    (omega (arith, inside, many), omega (arith, few, many))

-- a place where the seat has the same view follows the same round
pub same_follows : (scheme : Scheme) (k : RoundState) (q r : P) → r.own.federates ≡ q.own.federates → r.own.number ≡ q.own.number → r.client ≡ q.client → FollowsRound scheme k q → FollowsRound scheme k r
same_follows scheme k q r federates number same f = record {
  scheme_is = (λ i. (same i).scheme) ∙ f.scheme_is;
  federates = federates ∙ f.federates;
  number = number ∙ f.number;
  started = f.started;
  round = (λ i. length (same i).contributions) ∙ f.round;
  few = f.few;
  under_way = λ lt. let u = f.under_way lt in record {
    results = (λ i. length (same i).results + 1) ∙ u.results;
    taken = (λ i. length (same i).taken) ∙ u.taken;
    value = u.value ∙ sym (λ i. share_with_taken scheme k.federates k.number (own_share (same i)) (same i).taken);
  };
  closed = λ e. let c = f.closed e in record {
    results = (λ i. length (same i).results) ∙ c.results;
    value = c.value ∙ sym (λ i. result_at (same i) (k.round - 1));
  };
}

-- so far the poll has come, from the state k0 at the place p to the state k at q
pub record Came (scheme : Scheme) (k0 : RoundState) (p : P) (k : RoundState) (q : P) : Type 0 where
  pub world : IsInWorld q
  pub left : LeavesSeat p q
  pub takes : TakesIn scheme k0 k p q
  pub past : (l : ℕ) → k0.taken ≤ l → l < k.taken → (look_after scheme k0 q l).step ≤ q.own.steps
  pub looks : q.own.looks + k0.taken ≡ p.own.looks + k.taken
  pub follows : FollowsRound scheme k q
  pub slots : LeavesSlots scheme k (IsNew k0 k) p q

-- the poll waits: the register did not show the round
pub record Waits (scheme : Scheme) (k0 : RoundState) (p : P) (k : RoundState) (q : P) (reg : Reg) : Type 0 where
  pub world : IsInWorld q
  pub left : LeavesSeat p q
  pub takes : TakesIn scheme k0 k p q
  pub answer : IsNotYet scheme reg k0 k p q
  pub looks : q.own.looks + k0.taken ≡ p.own.looks + k.taken + 1
  pub follows : FollowsRound scheme k q
  pub slots : LeavesSlots scheme k (IsNew k0 k) p q

pub begins : (scheme : Scheme) (k : RoundState) (p : P) → IsInWorld p → FollowsRound scheme k p → Came scheme k p k p
begins scheme k p world f = record {
  world = world;
  left = left_here p;
  takes = record {
    federates = refl;
    number = refl;
    round = refl;
    shares = [];
    many = omega arith;
    since = λ l low high. absurd (omega (arith, low, high));
    in_order = λ l m low lt high. absurd (omega (arith, low, lt, high));
    shows = λ l low high. absurd (omega (arith, low, high));
    found = λ i lt. absurd (omega (arith, lt));
    view = sym (ap (λ l. view_after_close p.own.federates p.own.number (record p.client { taken = l })) (append-nil p.client.taken) ∙ closes_nothing scheme k p f);
  };
  past = λ l low high. absurd (omega (arith, low, high));
  looks = refl;
  follows = f;
  slots = λ slot lt avoid. refl;
}

module _ (scheme : Scheme) (k0 k : RoundState) (p q : P) (f0 : FollowsRound scheme k0 p) (c : Came scheme k0 p k q) (less : k.taken < all_registers scheme k) where
  abbrev reg : Reg
  reg = register_after scheme k k.taken

  at_first : (l : ℕ) → register_after scheme k l ≡ register_after scheme k0 l
  at_first l = λ i. register_in scheme (c.takes.federates i) (c.takes.number i) (c.takes.round i) l

  inside : k.number < k.federates
  inside = let s = (seat_in q c.world).0 in let n = c.follows.federates in let x = c.follows.number in omega (arith, s, n, x)

  few : k.federates ≤ 16
  few = let s = (seat_in q c.world).1 in let n = c.follows.federates in omega (arith, s, n)

  pub register_there : IsReg k.federates (register_after scheme k k.taken)
  register_there = is_reg scheme k.federates k.number k.round k.taken inside few less

  here : reg_index (register_after scheme k k.taken) < length q.own.registers
  here =
      let h = register_there in
      let long = (own_in q c.world).registers in
      let n = c.follows.federates in
      let many = (own_in q c.world).federates in
      let o = h.0 in
      let s = h.1 in
      omega (arith, o, s, long, n, many)

  -- the last look at a register that was taken in stands, where another one is looked at
  stands : (g : Glance ℕ) (l : ℕ) → l < k.taken → get_or (set q.own.registers (reg_index (register_after scheme k k.taken)) g) (reg_index (register_after scheme k0 l)) (record { step = 0; gave = 0 }) ≡ look_after scheme k0 q l
  stands g l lt =
      let apart : register_after scheme k l ≢ register_after scheme k k.taken = registers_differ scheme k l k.taken inside lt less in
      let there = is_reg scheme k.federates k.number k.round l inside few (omega (arith, lt, less)) in
      let differs = index_differs (register_after scheme k l) (register_after scheme k k.taken) there.1 register_there.1 apart in
      subst (λ r. get_or (set q.own.registers (reg_index (register_after scheme k k.taken)) g) (reg_index r) (record { step = 0; gave = 0 }) ≡ look_at q r) (at_first l)
      (get_or-set_other q.own.registers (reg_index (register_after scheme k k.taken)) (reg_index (register_after scheme k l)) g (record { step = 0; gave = 0 }) differs)

  module _ (word : ℕ) where
    abbrev glance : Glance ℕ
    glance = record { step = q.own.steps + 1; gave = word }

    abbrev q1 : P
    q1 = place_after view_after (Looked (register_after scheme k k.taken) word) q

    pub looked_here : look_at (place_after view_after (Looked (register_after scheme k k.taken) word) q) (register_after scheme k k.taken) ≡ record { step = q.own.steps + 1; gave = word }
    looked_here = get_or-set_same q.own.registers (reg_index reg) glance (record { step = 0; gave = 0 }) here

    looked_first : look_after scheme k0 q1 k.taken ≡ glance
    looked_first = subst (λ r. look_at q1 r ≡ glance) (at_first k.taken) looked_here

    pub looked_there : (l : ℕ) → l < k.taken → look_after scheme k0 (place_after view_after (Looked (register_after scheme k k.taken) word) q) l ≡ look_after scheme k0 q l
    looked_there l lt = stands glance l lt

    module _ (shows : Shows word k.round) (value : Share) (value_is : value ≡ share_with_taken scheme k.federates k.number (own_share q.client) (q.client.taken ++ (share_of word).0 ∷ []))
        (world : IsInWorld (place_after view_after (Looked (register_after scheme k k.taken) word) q)) where
      abbrev s : Share
      s = (share_of word).0

      abbrev k1 : RoundState
      k1 = next_state k value

      -- nothing was closed so far
      still : q.client ≡ record p.client { taken = p.client.taken ++ c.takes.shares }
      still =
          let many = c.takes.many in
          let all0 : all_registers scheme k ≡ all_registers scheme k0 = λ i. length (sources scheme (c.takes.federates i) (c.takes.number i)) in
          let u0 = f0.under_way (omega (arith, less, all0, many)) in
          let long = length-append p.client.taken c.takes.shares in
          let all : length (sources p.client.scheme p.own.federates p.own.number) ≡ all_registers scheme k0 = λ i. length (sources (f0.scheme_is i) (f0.federates i) (f0.number i)) in
          c.takes.view ∙ closes_no_part p.own.federates p.own.number (record p.client { taken = p.client.taken ++ c.takes.shares }) (λ e. omega (arith, e, long, all, all0, many, u0.taken, less))

      one_more : (Q : Glance ℕ → Type 0) → Q glance → ((l : ℕ) → k0.taken ≤ l → l < k.taken → Q (look_after scheme k0 q l)) → (l : ℕ) → k0.taken ≤ l → l < k.taken + 1 → Q (look_after scheme k0 q1 l)
      one_more Q last before l low high = elim (cases_lt l k.taken) [
        | inl lt ↦ subst Q (sym (looked_there l lt)) (before l low lt)
        | inr ge ↦
            let e : l ≡ k.taken = omega (arith, ge, high) in
            subst (λ x. Q (look_after scheme k0 q1 x)) (sym e) (subst Q (sym looked_first) last)
      ]

      pub look_on : Came scheme k0 p (next_state k value) (place_after view_after (Looked (register_after scheme k k.taken) word) q)
      look_on = record {
        world = world;
        left = left_on p q q1 c.left (look_left q reg word);
        takes = record {
          federates = c.takes.federates;
          number = c.takes.number;
          round = c.takes.round;
          shares = c.takes.shares ++ s ∷ [];
          many = let m = c.takes.many in let l = length_push c.takes.shares s in omega (arith, m, l);
          since = one_more (λ g. p.own.steps < g.step) (let b = c.left.steps in omega (arith, b)) c.takes.since;
          in_order = λ l m low lt high. elim (cases_lt m k.taken) [
            | inl before ↦
                subst (λ (g : Glance ℕ). g.step < (look_after scheme k0 q1 m).step) (sym (looked_there l (omega (arith, lt, before))))
                (subst (λ (g : Glance ℕ). (look_after scheme k0 q l).step < g.step) (sym (looked_there m before)) (c.takes.in_order l m low lt before))
            | inr ge ↦
                let e : m ≡ k.taken = omega (arith, ge, high) in
                let before : l < k.taken = omega (arith, lt, e) in
                let past = c.past l low before in
                subst (λ x. (look_after scheme k0 q1 l).step < (look_after scheme k0 q1 x).step) (sym e)
                (subst (λ (g : Glance ℕ). (look_after scheme k0 q1 l).step < g.step) (sym looked_first)
                (subst (λ (g : Glance ℕ). g.step < q.own.steps + 1) (sym (looked_there l before)) (omega (arith, past))))
          ];
          shows = one_more (λ g. Shows g.gave k0.round) (shows ∙ ap (λ r. r % 8) c.takes.round) c.takes.shows;
          found = λ i lt. elim (cases_lt i (length c.takes.shares)) [
            | inl before ↦
                get_or_append_left c.takes.shares (s ∷ []) unknown i before
                ∙ (c.takes.found i before ∙ sym (ap (λ (g : Glance ℕ). (share_of g.gave).0) (looked_there (k0.taken + i) (let m = c.takes.many in omega (arith, m, before)))))
            | inr ge ↦
                let e : length c.takes.shares ≡ i = omega (arith, ge, lt, length_push c.takes.shares s) in
                let at : k.taken ≡ k0.taken + i = let m = c.takes.many in omega (arith, m, e) in
                get_or_push c.takes.shares s unknown i e ∙ sym (ap (λ (g : Glance ℕ). (share_of g.gave).0) (subst (λ x. look_after scheme k0 q1 x ≡ glance) at looked_first))
          ];
          view =
              look_found scheme k q c.follows less word shows
              ∙ ((λ i. view_after_close (c.left.federates i) (c.left.number i) (with_share s (still i)))
              ∙ ap (λ l. view_after_close p.own.federates p.own.number (record p.client { taken = l })) (append_assoc p.client.taken c.takes.shares (s ∷ [])));
        };
        past = one_more (λ g. g.step ≤ q.own.steps + 1) (omega arith) (λ l low lt. let h = c.past l low lt in omega (arith, h));
        looks = let b = c.looks in omega (arith, b);
        follows = follows_on scheme k q c.follows less s value q1 refl refl (look_found scheme k q c.follows less word shows) value_is;
        slots = λ slot lt avoid. c.slots slot lt (λ stage known does new. avoid stage known does (new.0, let h = new.1 in omega (arith, h)));
      }

-- ---- a publish
by_tests : {A : Type 0} (a b c : Bool) (g u w v : A) → a ≡ false → b ≡ false → w ≡ v → cond a g (cond b u (cond c w v)) ≡ v
by_tests a b true g u w v ea eb e = ap (λ t. cond t g (cond b u w)) ea ∙ (ap (λ t. cond t u w) eb ∙ e)
by_tests a b false g u w v ea eb e = ap (λ t. cond t g (cond b u v)) ea ∙ ap (λ t. cond t u v) eb

-- beside the own share it leaves a view that is followed
pub publish_view : (scheme : Scheme) (k : RoundState) (q : P) (stage word : ℕ) → FollowsRound scheme k q → stage < 6 → stage ≢ 4 → view_after_publish (reg_of k.number stage k.round) word q ≡ q.client
publish_view scheme k q stage word f known other =
    let slot = k.round % 2 * 6 + stage in
    by_tests (slot == 12) (slot % 6 == share_stage) (slot % 6 == 0) _ _ (view_after_close q.own.federates q.own.number q.client) q.client
    (ne_eqb slot 12 (λ e. omega (arith, e, known))) (ne_eqb (slot % 6) share_stage (λ e. other (omega (arith, e, known)))) (closes_nothing scheme k q f)

-- slots of other stages are other ones
pub other_slot : (k : RoundState) (q : P) (word a b : ℕ) → b ≢ a → get_or (set q.own.shown (reg_of k.number a k.round).slot word) (reg_of k.number b k.round).slot 0 ≡ shown_word k q b
other_slot k q word a b ne = get_or-set_other q.own.shown (k.round % 2 * 6 + a) (k.round % 2 * 6 + b) word 0 (λ e. ne (omega (arith, e)))

pub this_slot : (k : RoundState) (q : P) (word stage : ℕ) → length q.own.shown ≡ 13 → stage < 6 → get_or (set q.own.shown (reg_of k.number stage k.round).slot word) (reg_of k.number stage k.round).slot 0 ≡ word
this_slot k q word stage long known = get_or-set_same q.own.shown (k.round % 2 * 6 + stage) word 0 (omega (arith, long, known))

pub word_shows : (share : Share) (round : ℕ) → FitsWord share → Shows (share_word share round) round
word_shows share round fits = ap (λ (x : Share × ℕ). x.1) (shares_come_back_law share round fits)

module _ (k0 k : RoundState) (p q : P) (c : Came Butterfly k0 p k q) (new : k0.taken < k.taken) (stage : ℕ) (due : IsDue k.federates k.number k.taken stage) where
  abbrev r : P
  r = place_after view_after (Published (reg_of k.number stage k.round) (share_word k.value k.round)) q

  same : (place_after view_after (Published (reg_of k.number stage k.round) (share_word k.value k.round)) q).client ≡ q.client
  same = publish_view Butterfly k q stage (share_word k.value k.round) c.follows due.known due.other

  pub publish_on : IsInWorld (place_after view_after (Published (reg_of k.number stage k.round) (share_word k.value k.round)) q) → Came Butterfly k0 p k (place_after view_after (Published (reg_of k.number stage k.round) (share_word k.value k.round)) q)
  publish_on world = record {
    world = world;
    left = left_on p q r c.left (publish_left q (reg_of k.number stage k.round) (share_word k.value k.round));
    takes = record {
      federates = c.takes.federates;
      number = c.takes.number;
      round = c.takes.round;
      shares = c.takes.shares;
      many = c.takes.many;
      since = c.takes.since;
      in_order = c.takes.in_order;
      shows = c.takes.shows;
      found = c.takes.found;
      view = same ∙ c.takes.view;
    };
    past = λ l low lt. let h = c.past l low lt in omega (arith, h);
    looks = c.looks;
    follows = same_follows Butterfly k q r refl refl same c.follows;
    slots = λ slot lt avoid.
        let now = due.now in
        get_or-set_other q.own.shown (reg_of k.number stage k.round).slot slot (share_word k.value k.round) 0 (avoid stage due.known due.published (omega (arith, new, now), omega (arith, now)))
        ∙ c.slots slot lt avoid;
  }

-- what is shown then
pub shows_due : (k : RoundState) (q r : P) → length q.own.shown ≡ 13 → FitsWord k.value → ShowsDue k q r → Shows (shown_word k q 4) k.round
    → ((stage : ℕ) → stage < 6 → publishes Butterfly k.federates k.number stage ≡ true → shares_needed Butterfly k.federates k.number stage < k.taken → Shows (shown_word k q stage) k.round)
    → SlotsShowRound Butterfly k r
shows_due k q r long fits d own before stage known does le = by_slot d.stage d.due d.place
  where
    earlier : shares_needed Butterfly k.federates k.number stage ≢ k.taken → Shows (shown_word k q stage) k.round
    earlier ne = before stage known does (grind (arith, le, ne))

    its_own : stage ≡ 4 → Shows (shown_word k q stage) k.round
    its_own four = subst (λ x. Shows (shown_word k q x) k.round) (sym four) own

    by_slot : (o : Option ℕ) → IsDueSlot k.federates k.number k.taken o → IsPublished k o q r → Shows (shown_word k r stage) k.round
    by_slot None none is = subst (λ (x : P). Shows (shown_word k x stage) k.round) (sym is) (elim (cases_eq stage 4) [
      | inl four ↦ its_own four
      | inr four ↦ earlier (λ e. none stage (record { known = known; other = four; published = does; now = e }))
    ])
    by_slot (Some a) due is =
        let word = share_word k.value k.round in
        subst (λ (x : P). Shows (shown_word k x stage) k.round) (sym is) (elim (cases_eq stage a) [
          | inl e ↦
              subst (λ x. Shows x k.round) (sym (subst (λ b. get_or (set q.own.shown (reg_of k.number a k.round).slot word) (reg_of k.number b k.round).slot 0 ≡ word) (sym e) (this_slot k q word a long due.0.known))) (word_shows k.value k.round fits)
          | inr ne ↦ subst (λ x. Shows x k.round) (sym (other_slot k q word a stage ne)) (elim (cases_eq stage 4) [
            | inl four ↦ its_own four
            | inr four ↦ earlier (λ e. ne (due.1 stage (record { known = known; other = four; published = does; now = e })))
          ])
        ])

-- and where the share is published alone
pub flat_shown : (k : RoundState) (value : Share) (q r : P) → r.own.shown ≡ q.own.shown → SlotsShowRound Flat k q → SlotsShowRound Flat (next_state k value) r
flat_shown k value q r same shown stage known does le =
    let none : shares_needed Flat k.federates k.number stage ≡ 0 = ap (shares_needed Flat k.federates k.number) (eqb-true stage share_stage does) in
    subst (λ l. Shows (slice_index l (reg_of k.number stage k.round).slot) k.round) (sym same) (shown stage known does (omega (arith, none)))

-- ---- what a look comes to
module _ (scheme : Scheme) (k0 k : RoundState) (p q q' : P) (f0 : FollowsRound scheme k0 p) (c : Came scheme k0 p k q) (less : k.taken < all_registers scheme k)
    (reg : Reg) (next : reg ≡ register_after scheme k k.taken) (world : IsInWorld q') where
  -- the register may be looked at
  pub may_look : IsReg q.own.federates reg
  may_look = subst₂ IsReg (sym c.follows.federates) (sym next) (register_there scheme k0 k p q f0 c less)

  module _ (share : Share) (h : HasLooked q reg k.round q' (Some share)) where
    found_at : q' ≡ place_after view_after (Looked (register_after scheme k k.taken) h.word) q
    found_at = h.place ∙ (λ i. place_after view_after (Looked (next i) h.word) q)

    pub found_on : (value : Share) → value ≡ share_with_taken scheme k.federates k.number (own_share q.client) (q.client.taken ++ share ∷ []) → Came scheme k0 p (next_state k value) q'
    found_on value is =
        let is' : value ≡ share_with_taken scheme k.federates k.number (own_share q.client) (q.client.taken ++ (share_of h.word).0 ∷ []) =
        is ∙ (λ i. share_with_taken scheme k.federates k.number (own_share q.client) (q.client.taken ++ h.found.1 i ∷ [])) in
        subst (λ (r : P). Came scheme k0 p (next_state k value) r) (sym found_at) (look_on scheme k0 k p q f0 c less h.word h.found.0 value is' (subst IsInWorld found_at world))

    -- what it comes to has room in a word
    pub found_fits : FitsWord (share_with_taken scheme k.federates k.number (own_share q.client) (q.client.taken ++ share ∷ []))
    found_fits =
        let value : Share = share_with_taken scheme k.federates k.number (own_share q.client) (q.client.taken ++ share ∷ []) in
        value_fits_word scheme (next_state k value) q' (found_on value refl).follows world

    pub found_shown : q'.own.shown ≡ q.own.shown
    found_shown = λ i. (h.place i).own.shown

  module _ (h : HasLooked q reg k.round q' None) where
    missed_at : q' ≡ place_after view_after (Looked (register_after scheme k k.taken) h.word) q
    missed_at = h.place ∙ (λ i. place_after view_after (Looked (next i) h.word) q)

    abbrev q2 : P
    q2 = place_after view_after (Looked (register_after scheme k k.taken) h.word) q

    unmoved : (place_after view_after (Looked (register_after scheme k k.taken) h.word) q).client ≡ q.client
    unmoved = look_unfound scheme k q c.follows less (register_after scheme k k.taken) h.word h.found

    stays : (Q : Glance ℕ → Type 0) → ((l : ℕ) → k0.taken ≤ l → l < k.taken → Q (look_after scheme k0 q l)) → (l : ℕ) → k0.taken ≤ l → l < k.taken → Q (look_after scheme k0 q2 l)
    stays Q h' l low lt = subst Q (sym (looked_there scheme k0 k p q f0 c less h.word l lt)) (h' l low lt)

    looked : look_at q2 (register_after scheme k k.taken) ≡ record { step = q.own.steps + 1; gave = h.word }
    looked = looked_here scheme k0 k p q f0 c less h.word

    missed : Waits scheme k0 p k q2 (register_after scheme k k.taken)
    missed = record {
      world = subst IsInWorld missed_at world;
      left = left_on p q q2 c.left (look_left q (register_after scheme k k.taken) h.word);
      takes = record {
        federates = c.takes.federates;
        number = c.takes.number;
        round = c.takes.round;
        shares = c.takes.shares;
        many = c.takes.many;
        since = stays (λ g. p.own.steps < g.step) c.takes.since;
        in_order = λ l m low lt high.
            subst (λ (g : Glance ℕ). g.step < (look_after scheme k0 q2 m).step) (sym (looked_there scheme k0 k p q f0 c less h.word l (omega (arith, lt, high))))
            (subst (λ (g : Glance ℕ). (look_after scheme k0 q l).step < g.step) (sym (looked_there scheme k0 k p q f0 c less h.word m high)) (c.takes.in_order l m low lt high));
        shows = stays (λ g. Shows g.gave k0.round) c.takes.shows;
        found = λ i lt. c.takes.found i lt ∙ sym (ap (λ (g : Glance ℕ). (share_of g.gave).0) (looked_there scheme k0 k p q f0 c less h.word (k0.taken + i) (let m = c.takes.many in omega (arith, m, lt))));
        view = unmoved ∙ c.takes.view;
      };
      answer = record {
        more = less;
        next = refl;
        since = subst (λ (g : Glance ℕ). p.own.steps < g.step) (sym looked) (let b = c.left.steps in omega (arith, b));
        last = λ l low lt.
            let past = c.past l low lt in
            subst (λ (g : Glance ℕ). (look_after scheme k0 q2 l).step < g.step) (sym looked)
            (subst (λ (g : Glance ℕ). g.step < q.own.steps + 1) (sym (looked_there scheme k0 k p q f0 c less h.word l lt)) (omega (arith, past)));
        unshown = subst (λ (g : Glance ℕ). ¬ Shows g.gave k0.round) (sym looked) (λ e. h.found (e ∙ ap (λ r. r % 8) (sym c.takes.round)));
      };
      looks = let b = c.looks in omega (arith, b);
      follows = same_follows scheme k q q2 refl refl unmoved c.follows;
      slots = c.slots;
    }

    pub waits : Waits scheme k0 p k q' reg
    waits = subst₂ (λ (r : P) (x : Reg). Waits scheme k0 p k r x) (sym missed_at) (sym next) missed

    pub missed_shown : q'.own.shown ≡ q.own.shown
    missed_shown = λ i. (h.place i).own.shown

-- ---- the result
pub answered : (scheme : Scheme) (k0 k : RoundState) (p q : P) → Came scheme k0 p k q → k.taken ≡ all_registers scheme k → IsResult scheme k.value k q
answered scheme k0 k p q c all =
    let f = c.follows in
    let done = f.closed all in
    let last : k.round - 1 ≡ length q.client.results - 1 = let r = done.results in omega (arith, r) in
    let value : k.value ≡ result_at q.client (length q.client.results - 1) = done.value ∙ ap (result_at q.client) last in
    record {
      all = all;
      results = done.results ∙ sym f.round;
      last = value;
      told = λ m places w.
          let learnt = (w.client.floor.each q.own.number q w.here).learnt in
          let r = learnt.results (length q.client.results - 1) (let a = done.results in let b = f.started in omega (arith, a, b)) in
          (value ∙ r.0, r.1);
    }

-- the slots show what they did, where none was published
pub shown_still : (scheme : Scheme) (k : RoundState) (q r : P) → r.own.shown ≡ q.own.shown → SlotsShowRound scheme k q → SlotsShowRound scheme k r
shown_still scheme k q r same shown stage known does le = subst (λ l. Shows (slice_index l (reg_of k.number stage k.round).slot) k.round) (sym same) (shown stage known does le)

-- ---- the butterfly: a look, and the publish that it leads to
module _ (k0 k : RoundState) (p q : P) (c : Came Butterfly k0 p k q) (new : k0.taken < k.taken) where
  -- what holds between them
  pub look_holds : HoldsValue k q
  look_holds =
      let f = c.follows in
      let inside = (seat_in q c.world).0 in
      record {
        scheme_is = f.scheme_is;
        federates = f.federates;
        number = f.number;
        inside = let n = f.federates in let x = f.number in omega (arith, inside, n, x);
        started = f.started;
        round = f.round;
        value = elim (cases_lt k.taken (all_registers Butterfly k)) [
          | inl less ↦ inl (record { under_way = f.under_way less; before = λ _. less })
          | inr ge ↦ let all : k.taken ≡ all_registers Butterfly k = omega (arith, ge, f.few) in inr (record { closed = f.closed all; some = omega (arith, new); all = all })
        ];
      }

  module _ (r : P) (d : ShowsDue k q r) (world : IsInWorld r) where
    pub shown_came : Came Butterfly k0 p k r
    shown_came = by_slot d.stage d.due d.place
      where
        by_slot : (o : Option ℕ) → IsDueSlot k.federates k.number k.taken o → IsPublished k o q r → Came Butterfly k0 p k r
        by_slot None none is = subst (λ (x : P). Came Butterfly k0 p k x) (sym is) c
        by_slot (Some a) due is = subst (λ (x : P). Came Butterfly k0 p k x) (sym is) (publish_on k0 k p q c new a due.0 (subst IsInWorld is world))

    -- the slots of what was taken in before show the round, so all do
    pub shown_slots : FitsWord k.value → ((stage : ℕ) → stage < 6 → publishes Butterfly k.federates k.number stage ≡ true → shares_needed Butterfly k.federates k.number stage < k.taken → Shows (shown_word k q stage) k.round) → SlotsShowRound Butterfly k r
    shown_slots fits before = shows_due k q r (own_in q c.world).shown fits d (before 4 (omega arith) refl (omega (arith, new))) before

-- the slots of what was taken in before the last register show the round
abbrev pub ShowsBefore : RoundState → P → Type 0
ShowsBefore k q = (stage : ℕ) → stage < 6 → publishes Butterfly k.federates k.number stage ≡ true → shares_needed Butterfly k.federates k.number stage < k.taken → Shows (shown_word k q stage) k.round

pub shows_before : (k : RoundState) (value : Share) (q r : P) → r.own.shown ≡ q.own.shown → SlotsShowRound Butterfly k q → ShowsBefore (next_state k value) r
shows_before k value q r same shown stage known does lt = shown_still Butterfly k q r same shown stage known does (omega (arith, lt))
