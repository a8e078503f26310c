-- To publish a value on the way, or the result, keeps the rule.
use Rattle.std.proofs.Common.{◌≡◌, ◌≢◌, ℕ, suc, ◌+◌, ◌-◌, ◌*◌, ◌%◌, ◌<◌, ◌≤◌, ◌==◌, inl, inr, ⊎_elim, Bool, true, false, cond, List, [], length, refl, sym, ap, ◌∙◌, subst, arith, append-nil, true≢false}
use Rattle.std.specs.Prelude.{slice_set}
use Rattle.std.proofs.lemmas.Bool.{ne_eqb}
use Rattle.std.proofs.lemmas.List.{length-set, set-set}
use mathlib.Core.Logic.{dite}
use native.Mathlib.Decide.{ℕ_discrete}
use Rattle.atomic_table.proofs.Lists.{set_here}
use Rattle.kit_ground.specs.declared.address.Address.TheVariants.{Register}
use Rattle.kit_ground.specs.declared.address.Reg.{Reg}
use Rattle.kit_ground.specs.declared.place.Deed.TheVariants.{Published}
use Rattle.kit_ground.specs.declared.place.Place.{Place}
use Rattle.kit_ground.specs.Memory.{Memory, with_word}
use Rattle.kit_ground.specs.Rules.{World}
use Rattle.kit_ground.specs.Steps.{place_after, own_after}
use Rattle.kit_ground.proofs.Lists.{at_inside}
use Rattle.kit_ground.proofs.Memories.{register_else, stored_here}
use Rattle.kit_model.specs.declared.share.Share.{Share}
use Rattle.kit_model.specs.Shares.{FitsWord, share_word}
use Rattle.kit_rounds.specs.Ledgers.{Ledger}
use Rattle.kit_lbts.specs.declared.view.LbtsView.{LbtsView}
use Rattle.kit_lbts.specs.Promises.{ledgers_of, result_at}
use Rattle.kit_lbts.specs.Reduction.{back_stage, shares_needed, published_share, publishes, reg_of, share_stage}
use Rattle.kit_ground.specs.Layout.{clock_of}
use Rattle.kit_lbts.specs.Registers.{IsKnown, IsPlace, ShowsRound, Registers, word_at}
use Rattle.kit_lbts.specs.Progress.{view_after_close, view_after_contribution, view_after_grant, own_share, view_after}
use Rattle.kit_lbts.specs.LedgerLaws.{ready_place}
use Rattle.kit_lbts.specs.Letters.{Letters}
use Rattle.kit_lbts.specs.Rule.{LbtsRule, FederateRule, lbts_rule}
use Rattle.kit_lbts.specs.PublishLaws.{BacksKeep, ValuesKeep}
use Rattle.kit_lbts.specs.Ways.{Way, mark_in_mail}
use Rattle.kit_lbts.proofs.Changes.{ChangedAt, still}
use Rattle.kit_lbts.proofs.ContributionSteps.{shown_as}
use Rattle.kit_lbts.proofs.Fitting.{value_fits}
use Rattle.kit_lbts.proofs.LetterFacts.{letters_aside}
use Rattle.kit_lbts.proofs.LookSteps.{way_is}
use Rattle.kit_lbts.proofs.Publishing.{Lasts, closed_keeps, known_on, lasts, learnt_on, published_at, shown_on}
use Rattle.kit_lbts.proofs.RoundSteps.{rises_keep_rounds}
use Rattle.kit_lbts.proofs.StageFacts.{stage_known}
use Rattle.kit_lbts.proofs.Ways.{got, sent, way_still}

abbrev P : Type 0
P = Place LbtsView

-- a place of its last round is published that the federate knows
module _ (p : P) (m : Memory) (places : List P) (w : World lbts_rule p m places) (stage k : ℕ) (share : Share) (there : stage < 6) (apart : stage ≢ 4)
    (does : publishes p.client.scheme (length places) p.own.number stage ≡ true)
    (level : length p.client.contributions ≡ k + 1) (known : IsKnown (length places) (ledgers_of places) p.own.number stage k share) where
  abbrev me : ℕ
  me = p.own.number

  abbrev c : ℕ
  c = length p.client.contributions

  abbrev r : Reg
  r = reg_of p.own.number stage (length p.client.contributions)

  abbrev word : ℕ
  word = share_word share (length p.client.contributions)

  abbrev now : Memory
  now = with_word m (Register (reg_of p.own.number stage (length p.client.contributions))) (share_word share (length p.client.contributions))

  abbrev q : P
  q = record { own = own_after (Published (reg_of p.own.number stage (length p.client.contributions)) (share_word share (length p.client.contributions))) p.own; client = p.client }

  abbrev n : ℕ
  n = length places

  abbrev ledgers : ℕ → Ledger
  ledgers = ledgers_of places

  abbrev after : ℕ → Ledger
  after = ledgers_of (slice_set places p.own.number q)

  mine : FederateRule m places p.own.number p
  mine = w.client.each me p w.here

  inside : p.own.number < length places
  inside = at_inside places me p w.here

  last : Lasts ledgers after
  last = lasts p m places w now q refl [] (sym (append-nil p.client.contributions))

  same_word : (s round : ℕ) → round % 2 * 6 + s ≢ c % 2 * 6 + stage → word_at now me s round ≡ word_at m me s round
  same_word s round other = register_else m r (reg_of me s round) word (λ _. other)

  shown_new : ShowsRound n after me stage c (word_at now me stage c)
  shown_new =
      let next : suc k ≡ c = omega (arith, level) in
      let first : ShowsRound n after me stage (suc k) (share_word share (suc k)) = (share, refl, known_on n ledgers after last me stage k share known) in
      shown_as n after me stage (suc k) c (share_word share (suc k)) (word_at now me stage c) next (ap (share_word share) next ∙ sym (stored_here m (Register r) word)) first

  registers : Registers now n after p.own.number q
  registers = record {
    now = λ s lt does. dite (ℕ_discrete s stage)
        (λ same. inl (subst (λ (x : ℕ). ShowsRound n after me x c (word_at now me x c)) (sym same) shown_new))
        (λ other.
        let word_is = sym (same_word s c (λ e. other (omega (arith, e)))) in
        ⊎_elim
        (λ (h : ShowsRound n ledgers me s c (word_at m me s c)). inl (subst (ShowsRound n after me s c) word_is (shown_on n ledgers after last me s c (word_at m me s c) h)))
        (λ (h : ShowsRound n ledgers me s (c - 2) (word_at m me s c)). inr (subst (ShowsRound n after me s (c - 2)) word_is (shown_on n ledgers after last me s (c - 2) (word_at m me s c) h)))
        (mine.registers.now s lt does));
    before = λ s lt does.
        subst (ShowsRound n after me s (c - 1)) (sym (same_word s (c + 1) (λ e. omega (arith, e, lt, there))))
        (shown_on n ledgers after last me s (c - 1) (word_at m me s (c + 1)) (mine.registers.before s lt does));
    unused = λ s round lt none.
        same_word s round (λ e. let same : stage ≡ s = omega (arith, e, lt, there) in true≢false (sym does ∙ (ap (publishes p.client.scheme n me) same ∙ none)))
        ∙ mine.registers.unused s round lt none;
    clock = register_else m r (clock_of me) word (λ _ e. omega (arith, e, there)) ∙ mine.registers.clock;
    lows = mine.registers.lows;
  }

  letters : Letters now p.own.number q
  letters =
      let old = letters_aside m now me p (λ x lx on. on) (λ x y lx on. refl) mine.letters in
      record {
        sized = old.sized;
        counted = old.counted;
        sending = λ x e. let h = old.sending x e in record { first = h.first; rest = h.rest; within = h.within; outbox = h.outbox; owed = h.owed; filled = h.filled };
        others = old.others;
      }

  changed : ChangedAt p m places w now q refl
  changed = record {
    letters = letters;
    others = λ a x other at. letters_aside m now a x (λ y ly on. on) (λ y z ly on. refl) (w.client.each a x at).letters;
    holdings = let old = mine.holdings in record { each = old.each; in_hand = old.in_hand; queue = old.queue; spent = old.spent };
    queue = let old = mine.queue in record { ordered = old.ordered; apart = old.apart; is = old.is; ahead = old.ahead; settled = old.settled };
    heard = mine.heard;
    granting = let old = mine.granting in record { lawful = old.lawful; below = old.below; within = old.within; wish = old.wish; asked = old.asked };
    sends = let old = mine.sends in record { own = old.own; numbered = old.numbered; next = old.next; timed = old.timed; takes_back = old.takes_back; waiting = old.waiting; late = old.late; transported = old.transported; behind = old.behind; once = old.once; each = old.each; receivers = old.receivers; coloured = old.coloured; few = old.few; new = old.new };
    ways = λ i j x s ti tj.
        let b = still (λ (y : P). y.own.buffers) places me p q refl i x ti in
        subst (λ (y : ℕ). Way y (mark_in_mail now i j) i j x.client s.client) (sym b)
        (way_still ti.before.own.buffers (mark_in_mail m i j) (mark_in_mail now i j) i j ti.before.client tj.before.client x.client s.client (λ y ly. refl)
        (still (λ (y : P). sent j y.client) places me p q refl i x ti) (still (λ (y : P). got y.client) places me p q refl j s tj) (w.client.ways i j ti.before tj.before ti.at tj.at));
    rounds = rises_keep_rounds places me p q w.here w.client.rounds (record { rises = omega arith; is = refl });
  }

  rule_after : LbtsRule now (slice_set places p.own.number q)
  rule_after = published_at p m places w now q refl (omega (arith, inside)) (record {
    words = λ x other. register_else m r x word (λ own. absurd (other own));
    federation = refl;
    scheme = refl;
    more = [];
    grows = sym (append-nil p.client.contributions);
    registers = registers;
    learnt = let h = learnt_on n ledgers after last (omega (arith, inside)) me p mine.learnt in record { under_way = h.under_way; fresh = h.fresh; few = h.few; taken = h.taken; results = h.results };
  }) changed

  -- the first stage closes a round of one federate
  by_first : (b : Bool) → LbtsRule now (slice_set places p.own.number (record q { client = cond b (view_after_close p.own.federates p.own.number p.client) p.client }))
  by_first false = rule_after
  by_first true =
      let then : List P = slice_set places me q in
      let long : length then ≡ n = length-set places me q in
      subst (LbtsRule now) (set-set places me q (record q { client = view_after_close p.own.federates p.own.number q.client }))
      (closed_keeps now then me q (set_here places me q inside) rule_after (omega (arith, long, w.floor.few)) ((w.floor.each me p w.here).federates ∙ sym long))

  is_value : (u g x y : LbtsView) (a b : Bool) → a ≡ false → b ≡ false → cond a u (cond b g (cond (r.slot % 6 == 0) x y)) ≡ cond (r.slot % 6 == 0) x y
  is_value u g x y true b clock own = absurd (true≢false clock)
  is_value u g x y false true clock own = absurd (true≢false own)
  is_value u g x y false false clock own = refl

  pub publish : let r = reg_of p.own.number stage (length p.client.contributions) in
      let word = share_word share (length p.client.contributions) in LbtsRule (with_word m (Register r) word) (slice_set places p.own.number (place_after view_after (Published r word) p))
  publish = subst (λ (u : LbtsView). LbtsRule now (slice_set places me (record { own = own_after (Published r word) p.own; client = u })))
      (sym (is_value (view_after_grant me word p.client) (view_after_contribution (ready_place p)) (view_after_close p.own.federates me p.client) p.client (r.slot == 12) (r.slot % 6 == share_stage)
      (ne_eqb r.slot 12 (λ e. omega (arith, e, there))) (ne_eqb (r.slot % 6) share_stage (λ e. apart (omega (arith, e, there))))))
      (by_first (r.slot % 6 == 0))

pub values_keep : ValuesKeep lbts_rule
values_keep p stage early does under has m places w = record {
  client =
      let many : p.own.federates ≡ length places = (w.floor.each p.own.number p w.here).federates in
      let mine = w.client.each p.own.number p w.here in
      let way = way_is p.client under in
      let known = subst (λ (n : ℕ). publishes p.client.scheme n p.own.number stage ≡ true → shares_needed p.client.scheme n p.own.number stage ≤ length p.client.taken
      → IsKnown (length places) (ledgers_of places) p.own.number stage (length p.client.results) (published_share p.client.scheme n p.own.number (own_share p.client) p.client.taken stage))
      (sym many) (λ d h. stage_known places p.own.number p w.here w.floor.few mine.learnt way stage early d h (value_fits p m places w)) does has in
      publish p m places w stage (length p.client.results) (published_share p.client.scheme p.own.federates p.own.number (own_share p.client) p.client.taken stage)
      (omega (arith, early)) (λ e. omega (arith, e, early)) (subst (λ (n : ℕ). publishes p.client.scheme n p.own.number stage ≡ true) many does) way known;
  guests = λ g sees. tt;
}

pub backs_keep : BacksKeep lbts_rule
backs_keep p does level some_done m places w = record {
  client =
      let mine = w.client.each p.own.number p w.here in
      let k : ℕ = length p.client.results - 1 in
      let result = mine.learnt.results k (omega (arith, some_done)) in
      let place : IsPlace (length places) p.own.number back_stage = record { there = at_inside places p.own.number p w.here; known = omega arith; inside = λ lt. absurd (omega (arith, lt)) } in
      publish p m places w back_stage k (result_at p.client k) (omega arith) (λ e. omega (arith, e))
      (subst (λ (n : ℕ). publishes p.client.scheme n p.own.number back_stage ≡ true) (w.floor.each p.own.number p w.here).federates does) (omega (arith, level, some_done)) (record {
        place = place;
        fits = subst FitsWord (sym result.0) (value_fits p m places w p.own.number back_stage k place (λ i lt takes. result.1 i lt));
        is = result.0;
        made = λ i lt takes. result.1 i lt;
      });
  guests = λ g sees. tt;
}
