-- To publish the own share keeps the rule.
use Rattle.std.proofs.Common.{◌≡◌, ◌≢◌, ℕ, suc, ◌+◌, ◌-◌, ◌*◌, ◌/◌, ◌%◌, ◌^◌, ◌<◌, ◌≤◌, ◌==◌, inl, inr, ⊎_elim, Bool, true, false, cond, List, [], ◌∷◌, ◌++◌, length, None, refl, sym, ap, ◌∙◌, subst, arith, eq-eqb, eqb-true, true≢false}
use Rattle.std.specs.List.{All}
use Rattle.std.specs.Prelude.{slice_set}
use Rattle.std.proofs.lemmas.Bool.{ne_eqb}
use Rattle.std.proofs.lemmas.List.Elements.{All-push, All-weaker}
use Rattle.std.proofs.lemmas.List.{get_or_push, length_push, length-set, set-set}
use mathlib.Core.Logic.{dite}
use native.Mathlib.Decide.{ℕ_discrete}
use Rattle.atomic_table.proofs.Lists.{set_here}
use Rattle.kit_ground.specs.declared.address.Address.TheVariants.{Register}
use Rattle.kit_ground.specs.declared.address.Reg.{Reg}
use Rattle.kit_ground.specs.declared.place.Deed.TheVariants.{Published}
use Rattle.kit_ground.specs.declared.place.Place.{Place}
use Rattle.kit_ground.specs.Memory.{Memory, with_word}
use Rattle.kit_ground.specs.Rules.{World}
use Rattle.kit_ground.specs.Steps.{place_after, own_after}
use Rattle.kit_ground.proofs.Lists.{at_inside}
use Rattle.kit_ground.proofs.Memories.{register_else, stored_here}
use Rattle.kit_model.specs.Shares.{FitsWord, share_word}
use Rattle.kit_rounds.specs.declared.contribution.Contribution.{Contribution}
use Rattle.kit_rounds.specs.Ledgers.{Ledger, at_round, last_run, nothing}
use Rattle.kit_rounds.specs.Rounds.{HasContributed}
use Rattle.kit_rounds.specs.Steps.{Contributes}
use Rattle.kit_rounds.proofs.Colours.{runs_before}
use Rattle.kit_lbts.specs.declared.view.Scheme.{Scheme}
use Rattle.kit_lbts.specs.declared.view.Scheme.TheVariants.{Flat, Butterfly}
use Rattle.kit_lbts.specs.declared.view.LbtsView.{LbtsView}
use Rattle.kit_lbts.specs.declared.view.Posting.{Posting}
use Rattle.kit_lbts.specs.Views.{is_new}
use Rattle.kit_lbts.specs.Promises.{ledger_of, ledgers_of, next_contribution}
use Rattle.kit_lbts.specs.Reduction.{publishes, reg_of, share_stage}
use Rattle.kit_ground.specs.Layout.{clock_of}
use Rattle.kit_lbts.specs.Registers.{IsKnown, ShowsRound, Learnt, Registers, word_at}
use Rattle.kit_lbts.specs.Progress.{view_after_close, view_after_close_if_flat, view_after_contribution, view_after_grant, view_after, view_when_ready, view_after_start}
use Rattle.kit_lbts.specs.Letters.{Letters}
use Rattle.kit_lbts.specs.Seats.{most_sends}
use Rattle.kit_lbts.specs.Rule.{LbtsRule, FederateRule, RoundsHold, lbts_rule}
use Rattle.kit_lbts.specs.LedgerLaws.{ready_place}
use Rattle.kit_lbts.specs.PublishLaws.{ContributionsKeep, ShowsLast}
use Rattle.kit_lbts.specs.Ways.{Way, mark_in_mail}
use Rattle.kit_lbts.proofs.Changes.{ChangedAt, still}
use Rattle.kit_lbts.proofs.Contributions.{last_is, low_is}
use Rattle.kit_lbts.proofs.Fitting.{next_fits}
use Rattle.kit_lbts.proofs.LetterFacts.{letters_aside}
use Rattle.kit_lbts.proofs.Looking.{not_before, shown_tag}
use Rattle.kit_lbts.proofs.Publishing.{Lasts, closed_keeps, lasts, published_at, result_on, shown_on}
use Rattle.kit_lbts.proofs.RoundSteps.{contributions_keep_rounds, ledger_after, ledger_before}
use Rattle.kit_lbts.proofs.Starting.{started_world}
use Rattle.kit_lbts.proofs.Ways.{got, sent, way_still}

-- who contributed to nothing is of no run
no_run : (cs : List Contribution) → length cs ≡ 0 → last_run cs ≡ 0
no_run [] e = refl
no_run (x ∷ xs) e = absurd (omega (arith, e))

-- the own share is always published
own_is_published : (scheme : Scheme) (n x : ℕ) → publishes scheme n x share_stage ≡ true
own_is_published Flat n x = refl
own_is_published Butterfly n x = refl

abbrev P : Type 0
P = Place LbtsView

-- what a register shows, where its round is named in another way
pub shown_as : (n : ℕ) (ledgers : ℕ → Ledger) (owner stage a b x y : ℕ) → a ≡ b → x ≡ y → ShowsRound n ledgers owner stage a x → ShowsRound n ledgers owner stage b y
shown_as n ledgers owner stage a b x y e f h = subst (λ (t : ℕ × ℕ). ShowsRound n ledgers owner stage t.0 t.1) (λ k. (e k, f k)) h

module _ (p : P) (m : Memory) (places : List P) (w : World lbts_rule p m places) (level : length p.client.contributions ≡ length p.client.results)
    (idle : p.client.sending ≡ None) (out : ShowsLast p) (started : is_new p.client.request ≡ false) (fits : FitsWord (next_contribution p).share) where
  abbrev me : ℕ
  me = p.own.number

  abbrev c : Contribution
  c = next_contribution p

  abbrev k : ℕ
  k = length p.client.contributions

  abbrev r : Reg
  r = reg_of p.own.number share_stage (length p.client.contributions + 1)

  abbrev word : ℕ
  word = share_word (next_contribution p).share (length p.client.contributions + 1)

  abbrev now : Memory
  now = with_word m (Register (reg_of p.own.number share_stage (length p.client.contributions + 1))) (share_word (next_contribution p).share (length p.client.contributions + 1))

  abbrev v : LbtsView
  v = record p.client { contributions = p.client.contributions ++ next_contribution p ∷ []; taken = [] }

  abbrev q : P
  q = record {
    own = own_after (Published (reg_of p.own.number share_stage (length p.client.contributions + 1)) (share_word (next_contribution p).share (length p.client.contributions + 1))) p.own;
    client = record p.client { contributions = p.client.contributions ++ next_contribution p ∷ []; taken = [] };
  }

  abbrev n : ℕ
  n = length places

  abbrev ledgers : ℕ → Ledger
  ledgers = ledgers_of places

  abbrev after : ℕ → Ledger
  after = ledgers_of (slice_set places p.own.number q)

  mine : FederateRule m places p.own.number p
  mine = w.client.each me p w.here

  there : p.own.number < length places
  there = at_inside places me p w.here

  many : length (p.client.contributions ++ c ∷ []) ≡ k + 1
  many = length_push p.client.contributions c

  last : Lasts ledgers after
  last = lasts p m places w now q refl (c ∷ []) refl

  mine_after : after p.own.number ≡ ledger_of q
  mine_after = ledger_after places me p q w.here

  -- the registers of the last round show it
  old_now : (stage : ℕ) → stage < 6 → publishes p.client.scheme n me stage ≡ true → ShowsRound n ledgers me stage k (word_at m me stage k)
  old_now stage lt does = ⊎_elim
      (λ (h : ShowsRound n ledgers me stage k (word_at m me stage k)). h)
      (λ (h : ShowsRound n ledgers me stage (k - 2) (word_at m me stage k)). dite (ℕ_discrete k 0)
      (λ none. shown_as n ledgers me stage (k - 2) k (word_at m me stage k) (word_at m me stage k) (omega (arith, none)) refl h)
      (λ some. absurd (not_before k (omega (arith, some)) (sym (tag (omega (arith, some))) ∙ shown_tag n ledgers me stage (k - 2) (word_at m me stage k) h))))
      (mine.registers.now stage lt does)
    where
      own_fits : p.own.federates ≡ n
      own_fits = (w.floor.each me p w.here).federates

      tag : 0 < k → word_at m me stage k / 2 ^ 61 ≡ k % 8
      tag more =
          ap (λ x. x / 2 ^ 61) ((w.floor.each me p w.here).shows (k % 2 * 6 + stage) (omega (arith, lt)))
          ∙ out stage lt (ap (λ (x : ℕ). publishes p.client.scheme x me stage) own_fits ∙ does) more

  -- the words of all other places are as before
  same_word : (stage round : ℕ) → round % 2 * 6 + stage ≢ (k + 1) % 2 * 6 + share_stage → word_at now me stage round ≡ word_at m me stage round
  same_word stage round apart = register_else m r (reg_of me stage round) word (λ _. apart)

  known : IsKnown n after me share_stage k c.share
  known = record {
    place = record { there = there; known = omega arith; inside = λ lt. absurd (omega (arith, lt)) };
    fits = fits;
    is = sym (ap (λ (l : Ledger). (at_round l k).share) mine_after ∙ ap (λ (x : Contribution). x.share) (get_or_push p.client.contributions c nothing k refl));
    made = λ j lt e. subst (λ (x : ℕ). HasContributed (after x) k) (sym (eqb-true j me e)) (subst (λ (l : Ledger). HasContributed l k) (sym mine_after) (omega (arith, many)));
  }

  shown_new : ShowsRound n after me share_stage (length (p.client.contributions ++ c ∷ [])) (word_at now me share_stage (length (p.client.contributions ++ c ∷ [])))
  shown_new =
      let next : suc k ≡ k + 1 = omega arith in
      let first : ShowsRound n after me share_stage (suc k) (share_word c.share (suc k)) = (c.share, refl, known) in
      let here : word_at now me share_stage (k + 1) ≡ word = stored_here m (Register r) word in
      shown_as n after me share_stage (suc k) (length (p.client.contributions ++ c ∷ [])) (share_word c.share (suc k)) (word_at now me share_stage (length (p.client.contributions ++ c ∷ [])))
      (next ∙ sym many) (ap (share_word c.share) next ∙ sym here ∙ ap (word_at now me share_stage) (sym many)) first

  registers : Registers now n after p.own.number q
  registers =
      let l : ℕ = length (p.client.contributions ++ c ∷ []) in
      record {
        now = λ stage lt does. dite (ℕ_discrete stage share_stage)
            (λ same. inl (subst (λ (s : ℕ). ShowsRound n after me s l (word_at now me s l)) (sym same) shown_new))
            (λ other.
            let h = shown_on n ledgers after last me stage (k - 1) (word_at m me stage (k + 1)) (mine.registers.before stage lt does) in
            inr (shown_as n after me stage (k - 1) (l - 2) (word_at m me stage (k + 1)) (word_at now me stage l) (omega (arith, many))
            (sym (same_word stage (k + 1) (λ e. other (omega (arith, e)))) ∙ ap (word_at now me stage) (sym many)) h));
        before = λ stage lt does.
            let h = shown_on n ledgers after last me stage k (word_at m me stage k) (old_now stage lt does) in
            let parity : k % 2 ≡ (l + 1) % 2 = omega (arith, many) in
            shown_as n after me stage k (l - 1) (word_at m me stage k) (word_at now me stage (l + 1)) (omega (arith, many))
            (sym (same_word stage k (λ e. omega (arith, e, lt))) ∙ ap (λ (t : ℕ). now (Register (record { owner = me; slot = t * 6 + stage }))) parity) h;
        unused = λ stage round lt none.
            same_word stage round (λ e. let same : share_stage ≡ stage = omega (arith, e, lt) in true≢false (sym (own_is_published p.client.scheme n me) ∙ (ap (publishes p.client.scheme n me) same ∙ none)))
            ∙ mine.registers.unused stage round lt none;
        clock = register_else m r (clock_of me) word (λ _ e. omega (arith, e)) ∙ mine.registers.clock;
        lows = All-push (λ (x : Contribution). x.share.low < 2 ^ 17) p.client.contributions c mine.registers.lows fits.low_fits;
      }

  learnt : Learnt n after p.own.number q
  learnt =
      let h = mine.learnt in
      record {
        under_way = inr (omega (arith, many, level));
        fresh = λ e. refl;
        few = omega arith;
        taken = λ l lt. absurd (omega (arith, lt));
        results = λ l lt. let x = h.results l lt in (x.0 ∙ sym (result_on n ledgers after last (omega (arith, there)) l x.1), λ i li. (last i l (x.1 i li)).0);
      }

  letters : Letters now p.own.number q
  letters =
      let old = letters_aside m now me p (λ x lx on. on) (λ x y lx on. refl) mine.letters in
      record {
        sized = old.sized;
        counted = old.counted;
        sending = λ x is. absurd (let e = idle in (cc));
        others = old.others;
      }

  contributes : Contributes c (ledger_of p) (ledger_of q)
  contributes = record {
    posts = refl;
    receipts = refl;
    out = refl;
    inn = refl;
    low = low_is (ledger_of p) c.run;
    is = ap (λ (colour : ℕ). record (ledger_of p) { colour = colour; contributions = p.client.contributions ++ c ∷ [] }) (last_is p.client.contributions c);
  }

  rounds_after : RoundsHold (slice_set places p.own.number q)
  rounds_after = contributions_keep_rounds places me p q c w.here w.client.rounds mine.learnt level refl contributes

  -- the colour does not fall
  colour_rises : last_run p.client.contributions ≤ last_run (p.client.contributions ++ c ∷ [])
  colour_rises = dite (ℕ_discrete k 0)
      (λ none. omega (arith, no_run p.client.contributions none))
      (λ some_made.
      let l : ℕ = k - 1 in
      let before = ledger_before places me p q w.here in
      let has : HasContributed (ledgers me) l = omega (arith, some_made, ap (λ (x : Ledger). length x.contributions) before) in
      let lasting = last me l has in
      let inside : me < length (slice_set places me q) = omega (arith, length-set places me q, there) in
      let runs = runs_before (length (slice_set places me q)) after rounds_after.0 me l rounds_after.1.rounds inside lasting.0 in
      let was : (at_round (ledgers me) l).run ≡ last_run p.client.contributions = ap (λ (x : Ledger). (at_round x l).run) before in
      omega (arith, runs, ap (λ (x : Contribution). x.run) lasting.1, was, ap (λ (x : Ledger). x.colour) mine_after))

  coloured : All (λ (x : Posting). x.filled.colour ≤ last_run (p.client.contributions ++ c ∷ [])) p.client.posted
  coloured = All-weaker (λ (x : Posting). x.filled.colour ≤ last_run p.client.contributions) (λ (x : Posting). x.filled.colour ≤ last_run (p.client.contributions ++ c ∷ [])) (λ x h. omega (arith, h, colour_rises)) p.client.posted mine.sends.coloured

  changed : ChangedAt p m places w now q refl
  changed = record {
    letters = letters;
    others = λ a x other at. letters_aside m now a x (λ y ly on. on) (λ y z ly on. refl) (w.client.each a x at).letters;
    holdings = let old = mine.holdings in record { each = old.each; in_hand = old.in_hand; queue = old.queue; spent = old.spent };
    queue = let old = mine.queue in record { ordered = old.ordered; apart = old.apart; is = old.is; ahead = old.ahead; settled = old.settled };
    heard = let old = mine.heard in record { orphans = old.orphans; came = old.came; past = old.past };
    granting = let old = mine.granting in record { lawful = old.lawful; below = old.below; within = old.within; wish = old.wish; asked = old.asked };
    sends = let old = mine.sends in record { own = old.own; numbered = old.numbered; next = old.next; timed = old.timed; takes_back = old.takes_back; waiting = old.waiting; late = old.late; transported = old.transported; behind = old.behind; once = old.once; each = old.each; receivers = old.receivers; coloured = coloured; few = old.few; new = λ e. absurd (true≢false (sym (ap is_new e) ∙ started)) };
    ways = λ i j x s ti tj.
        let b = still (λ (y : P). y.own.buffers) places me p q refl i x ti in
        subst (λ (y : ℕ). Way y (mark_in_mail now i j) i j x.client s.client) (sym b)
        (way_still ti.before.own.buffers (mark_in_mail m i j) (mark_in_mail now i j) i j ti.before.client tj.before.client x.client s.client (λ y ly. refl)
        (still (λ (y : P). sent j y.client) places me p q refl i x ti) (still (λ (y : P). got y.client) places me p q refl j s tj) (w.client.ways i j ti.before tj.before ti.at tj.at));
    rounds = rounds_after;
  }

  pub rule_after : LbtsRule now (slice_set places p.own.number q)
  rule_after = published_at p m places w now q refl (omega (arith, there)) (record {
    words = λ x other. register_else m r x word (λ own. absurd (other own));
    federation = refl;
    scheme = refl;
    more = c ∷ [];
    grows = refl;
    registers = registers;
    learnt = learnt;
  }) changed

  -- in the flat scheme a round with no other federate is closed at once
  by_scheme : (s : Scheme) → LbtsRule now (slice_set places p.own.number (record q { client = view_after_close_if_flat s p.own.federates p.own.number q.client }))
  by_scheme Butterfly = rule_after
  by_scheme Flat =
      let then : List P = slice_set places me q in
      let long : length then ≡ n = length-set places me q in
      subst (LbtsRule now) (set-set places me q (record q { client = view_after_close p.own.federates p.own.number q.client }))
      (closed_keeps now then me q (set_here places me q there) rule_after (omega (arith, long, w.floor.few)) ((w.floor.each me p w.here).federates ∙ sym long))

  pub contribution : LbtsRule now (slice_set places p.own.number (record {
    own = own_after (Published (reg_of p.own.number share_stage (length p.client.contributions + 1)) (share_word (next_contribution p).share (length p.client.contributions + 1))) p.own;
    client = view_after_contribution p;
  }))
  contribution = by_scheme p.client.scheme

-- the start's rules run first, where they have not
module _ (p : P) (level : length p.client.contributions ≡ length p.client.results) (idle : p.client.sending ≡ None) (out : ShowsLast p) (few : length (view_when_ready p.own.number p.client).state.sends ≤ most_sends) (m : Memory) (places : List P) (w : World lbts_rule p m places) where
  abbrev word_of : LbtsView → ℕ
  word_of u = share_word (next_contribution (record p { client = u })).share (length p.client.contributions + 1)

  abbrev reg : Reg
  reg = reg_of p.own.number share_stage (length p.client.contributions + 1)

  -- the rule holds where the federate contributes with this view
  abbrev After : LbtsView → Type 0
  After u = LbtsRule (with_word m (Register reg) (word_of u)) (slice_set places p.own.number (record { own = own_after (Published reg (word_of u)) p.own; client = view_after_contribution (record p { client = u }) }))

  from_ready : (b : Bool) → is_new p.client.request ≡ b → After (cond b (view_after_start p.own.number p.client) p.client)
  from_ready false e =
      contribution p m places w level idle out e (next_fits p m places w p.own.number p w.here)
  from_ready true e =
      let p' : P = record p { client = view_after_start p.own.number p.client } in
      let word : ℕ = word_of (view_after_start p.own.number p.client) in
      let then = started_world p e (subst (λ (b : Bool). length (cond b (view_after_start p.own.number p.client) p.client).state.sends ≤ most_sends) e few) m places w in
      subst (LbtsRule (with_word m (Register reg) word)) (set-set places p.own.number p' (record { own = own_after (Published reg word) p.own; client = view_after_contribution p' }))
      (contribution p' m (slice_set places p.own.number p') then level idle out refl (next_fits p' m (slice_set places p.own.number p') then p.own.number p' then.here))

  is_share : (u g c x : LbtsView) (a b : Bool) → a ≡ false → b ≡ true → cond a g (cond b u (cond (reg.slot % 6 == 0) c x)) ≡ u
  is_share u g c x true b clock own = absurd (true≢false clock)
  is_share u g c x false true clock own = refl
  is_share u g c x false false clock own = absurd (true≢false (sym own))

  pub contribution_keeps : let r = reg_of p.own.number share_stage (length p.client.contributions + 1) in
      let word = share_word (next_contribution (ready_place p)).share (length p.client.contributions + 1) in
      LbtsRule (with_word m (Register r) word) (slice_set places p.own.number (place_after view_after (Published r word) p))
  contribution_keeps =
      let word : ℕ = word_of (view_when_ready p.own.number p.client) in
      let slot : reg.slot % 6 ≡ share_stage = omega arith in
      subst (λ (u : LbtsView). LbtsRule (with_word m (Register reg) word) (slice_set places p.own.number (record { own = own_after (Published reg word) p.own; client = u })))
      (sym (is_share (view_after_contribution (ready_place p)) (view_after_grant p.own.number word p.client) (view_after_close p.own.federates p.own.number p.client) p.client (reg.slot == 12) (reg.slot % 6 == share_stage)
      (ne_eqb reg.slot 12 (λ e. omega (arith, e))) (eq-eqb (reg.slot % 6) share_stage slot)))
      (from_ready (is_new p.client.request) refl)

pub contributions_keep : ContributionsKeep lbts_rule
contributions_keep p level out idle few m places w = record { client = contribution_keeps p level idle out few m places w; guests = λ g sees. tt }
