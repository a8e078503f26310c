-- The rule of the sets after a step that changes which buffers the seat holds.
use Rattle.std.proofs.Common.{◌≡◌, ◌≢◌, ℕ, ◌+◌, ◌-◌, ◌*◌, ◌/◌, ◌%◌, ◌^◌, ◌<◌, ◌≤◌, max, List, length, refl, sym, ap, ◌∙◌, subst, arith, length-set, get_or-set_same, get_or-set_other}
use Rattle.std.proofs.lemmas.Nat.{or_lt, pow_below, xor_lt}
use Rattle.std.proofs.lemmas.Nat.Bits.{bit_at-lt, bit_at-zero, bit_at_or}
use Rattle.std.specs.Prelude.{slice_index, slice_set, bit_or, bit_xor}
use Rattle.std.specs.Int.{bit_at}
use mathlib.Core.Logic.{dite}
use native.Mathlib.Decide.{ℕ_discrete}
use Rattle.kit_ground.specs.declared.address.Address.TheVariants.{Mail, Count}
use Rattle.kit_ground.specs.declared.place.Buffer.{Buffer}
use Rattle.kit_ground.specs.declared.place.SeatBuffers.{SeatBuffers}
use Rattle.kit_ground.specs.Memory.{Memory, with_word}
use Rattle.kit_ground.specs.Sets.{Pool, buffer_at, due, stock_at, to_be_posted, posted, holding}
use Rattle.kit_ground.specs.Steps.{part_of, mail_mask}
use Rattle.kit_ground.proofs.Bits.{flipped_else, flipped_here}
use Rattle.kit_ground.proofs.Fits.{Fits, Narrow, at_buffer, due_is, due_same, fits, fits_aside, pool_from_fits, seat_inside, buffers_long, holds_below, holds_long}
use Rattle.kit_ground.proofs.Memories.{stored_here, count_else, mail_else}
use Rattle.kit_ground.proofs.MailWords.{mask_below, mask_else, mask_here, whole_buffer}
use Rattle.kit_ground.proofs.SetFacts.{holding_due}
use Rattle.kit_ground.proofs.Stocks.{with_held, reheld, buffers_kept, holds_here, holds_else}
use Rattle.kit_ground.proofs.Sums.{sum_change}

-- in one of two sets before, in the second after
taken : (x y z : ℕ) → y < 2 → z < 2 → x + y + z ≤ 1 → x + 0 + max z y ≡ x + y + z
taken x y z ly lz h = omega arith

no_more : (x : ℕ) → max x 0 ≡ x
no_more x = omega arith

-- the seat `me` has the stock s, and changes its mask of the buffers of `from`
module _ (m : Memory) (stocks : List SeatBuffers) (n b me : ℕ) (s : SeatBuffers) (h : Pool m stocks n b) (is : stock_at stocks me ≡ s) (lme : me < n) (from : ℕ) (lfrom : from < n) where
  abbrev after : ℕ → List SeatBuffers
  after v = reheld stocks me s from v

  inside : me < length stocks
  inside = seat_inside m stocks n b h me lme

  long_buffers : length s.buffers ≡ b
  long_buffers = buffers_long m stocks n b h me s is lme

  long_holds : length s.holds ≡ n
  long_holds = holds_long m stocks n b h me s is lme

  buffer_same : (now : Memory) (v i x : ℕ) → buffer_at now (after v) i x ≡ buffer_at m stocks i x
  buffer_same now v i x = buffers_kept stocks me s is inside from v i x

  to_be_posted_same : (now : Memory) (v i x j : ℕ) → to_be_posted now (after v) i x j ≡ to_be_posted m stocks i x j
  to_be_posted_same now v i x j = ap (λ (c : Buffer). bit_at c.to_post j) (buffer_same now v i x)

  held_before : (x : ℕ) → holding m stocks from x me ≡ bit_at (slice_index s.holds from) x
  held_before x = ap (λ (q : SeatBuffers). bit_at (slice_index q.holds from) x) is

  held_here : (now : Memory) (v x : ℕ) → holding now (after v) from x me ≡ bit_at v x
  held_here now v x = ap (λ (w : ℕ). bit_at w x) (holds_here stocks me s is inside from v (let l = long_holds in omega arith))

  held_else : (now : Memory) (v i x j : ℕ) → (i ≡ from → j ≢ me) → holding now (after v) i x j ≡ holding m stocks i x j
  held_else now v i x j apart = ap (λ (w : ℕ). bit_at w x) (holds_else stocks me s is inside from v j i (λ e a. apart a e))

  -- what the seat holds are buffers that there are
  below_each : (v : ℕ) → v < 2 ^ b → (i : ℕ) → i < n → slice_index (slice_set s.holds from v) i < 2 ^ b
  below_each v small i li = dite (ℕ_discrete i from)
      (λ same. subst (λ (x : ℕ). slice_index (slice_set s.holds from v) x < 2 ^ b) (sym same)
      (subst (λ (x : ℕ). x < 2 ^ b) (sym (get_or-set_same s.holds from v 0 (let l = long_holds in omega arith))) small))
      (λ other. subst (λ (x : ℕ). x < 2 ^ b) (sym (get_or-set_other s.holds from i v 0 other)) (holds_below m stocks n b h me s is lme i li))

  from_each : (now : Memory) (v : ℕ) → v < 2 ^ b → ((i x : ℕ) → i < n → x < b → Fits now (after v) n i x) → Narrow now n b → Pool now (after v) n b
  from_each now v small each narrow = pool_from_fits m stocks n b h now me (with_held from v s) inside long_buffers (length-set s.holds from v ∙ long_holds) (below_each v small) each narrow

  -- ---- a collect
  module _ (w : ℕ) where
    abbrev mail : ℕ
    mail = m (Mail me from w)

    abbrev mask : ℕ
    mask = mail_mask w mail

    abbrev joined : ℕ
    joined = bit_or (slice_index s.holds from) mask

    abbrev now : Memory
    now = with_word m (Mail me from w) 0

    mail_here : now (Mail me from w) ≡ 0
    mail_here = stored_here m (Mail me from w) 0

    held_now : (x : ℕ) → holding now (after joined) from x me ≡ max (holding m stocks from x me) (bit_at mask x)
    held_now x = held_here now joined x ∙ (bit_at_or (slice_index s.holds from) mask x ∙ ap (λ (z : ℕ). max z (bit_at mask x)) (sym (held_before x)))

    taken_due : (x : ℕ) → x < b → x / 64 ≡ w → due now (after joined) from x me ≡ due m stocks from x me
    taken_due x lx word =
        let once : to_be_posted m stocks from x me + posted m stocks from x me + holding m stocks from x me ≤ 1 = subst (λ (d : ℕ). d ≤ 1) (due_is m stocks from x me) (h.once from x me lfrom lx lme) in
        let none : posted now (after joined) from x me ≡ 0 = (λ t. bit_at (now (Mail me from (word t))) (x % 64)) ∙ (ap (λ (z : ℕ). bit_at z (x % 64)) mail_here ∙ bit_at-zero (x % 64)) in
        let place : 64 * w + x % 64 ≡ x = ap (λ (z : ℕ). 64 * z + x % 64) (sym word) ∙ whole_buffer x in
        let bit : bit_at mask x ≡ posted m stocks from x me = ap (bit_at mask) (sym place) ∙ (mask_here w mail (x % 64) ∙ (λ t. bit_at (m (Mail me from (sym word t))) (x % 64))) in
        due_is now (after joined) from x me
        ∙ ((λ t. to_be_posted_same now joined from x me t + none t + (held_now x ∙ ap (max (holding m stocks from x me)) bit) t)
        ∙ (taken (to_be_posted m stocks from x me) (posted m stocks from x me) (holding m stocks from x me) (bit_at-lt (m (Mail me from (x / 64))) (x % 64)) (bit_at-lt (slice_index (stock_at stocks me).holds from) x) once ∙ sym (due_is m stocks from x me)))

    posted_else : (i x j : ℕ) → (i ≡ from → j ≡ me → x / 64 ≢ w) → posted now (after joined) i x j ≡ posted m stocks i x j
    posted_else i x j apart = ap (λ (z : ℕ). bit_at z (x % 64)) (mail_else m me from w j i (x / 64) 0 apart)

    held_same : (x : ℕ) → x / 64 ≢ w → holding now (after joined) from x me ≡ holding m stocks from x me
    held_same x other = held_now x ∙ (ap (max (holding m stocks from x me)) (mask_else w mail x (λ c on. (h.narrow me from w c lme lfrom on).0) other) ∙ no_more (holding m stocks from x me))

    -- who is due stays so
    pub collect_due : (i x j : ℕ) → x < b → due now (after joined) i x j ≡ due m stocks i x j
    collect_due i x j lx = dite (ℕ_discrete i from)
        (λ a. dite (ℕ_discrete j me)
        (λ e. subst (λ (z : ℕ × ℕ). due now (after joined) z.0 x z.1 ≡ due m stocks z.0 x z.1) (λ t. (sym a t, sym e t)) (dite (ℕ_discrete (x / 64) w)
        (taken_due x lx)
        (λ other. due_same m now stocks (after joined) n from x me (to_be_posted_same now joined from x me) (posted_else from x me (λ _ _. other)) (held_same x other))))
        (λ other. due_same m now stocks (after joined) n i x j (to_be_posted_same now joined i x j) (posted_else i x j (λ _ e. absurd (other e))) (held_else now joined i x j (λ _. other))))
        (λ other. due_same m now stocks (after joined) n i x j (to_be_posted_same now joined i x j) (posted_else i x j (λ a. absurd (other a))) (held_else now joined i x j (λ a. absurd (other a))))

    pub collects : Pool now (after joined) n b
    collects =
        let narrow_else : (j i u x : ℕ) → j < n → i < n → (i ≡ from → j ≡ me → u ≢ w) → bit_at (now (Mail j i u)) x ≡ 1 → (x < 64) × (64 * u + x < b) =
        λ j i u x lj li apart is. h.narrow j i u x lj li (ap (λ (z : ℕ). bit_at z x) (sym (mail_else m me from w j i u 0 apart)) ∙ is) in
        let narrow_here : (x : ℕ) → bit_at (now (Mail me from w)) x ≡ 1 → (x < 64) × (64 * w + x < b) =
        λ x is. let y : ℕ = bit_at (now (Mail me from w)) x in let none : y ≡ 0 = ap (λ (z : ℕ). bit_at z x) mail_here ∙ bit_at-zero x in let one : y ≡ 1 = is in absurd (omega arith) in
        from_each now joined (or_lt b (slice_index s.holds from) mask (holds_below m stocks n b h me s is lme from lfrom) (mask_below w mail b (λ c. h.narrow me from w c lme lfrom)))
        (λ i x li lx. fits_aside m now stocks (after joined) n i x li (fits m stocks n b h i x li lx) refl (λ p lp. refl) (buffer_same now joined i x) (λ j lj. collect_due i x j lx))
        (λ j i u x lj li. dite (ℕ_discrete i from)
        (λ a. dite (ℕ_discrete j me)
        (λ e. dite (ℕ_discrete u w)
        (λ word. subst (λ (z : ℕ × ℕ × ℕ). bit_at (now (Mail z.0 z.1 z.2)) x ≡ 1 → (x < 64) × (64 * z.2 + x < b)) (λ t. (sym e t, sym a t, sym word t)) (narrow_here x))
        (λ other. narrow_else j i u x lj li (λ _ _. other)))
        (λ other. narrow_else j i u x lj li (λ _ e. absurd (other e))))
        (λ other. narrow_else j i u x lj li (λ a. absurd (other a))))

  -- ---- a release
  module _ (k : ℕ) (lk : k < b) (on : bit_at (slice_index s.holds from) k ≡ 1) where
    abbrev less : ℕ
    less = bit_xor (slice_index s.holds from) (2 ^ k)

    abbrev count : ℕ
    count = m (Count from k) - 1

    abbrev fewer : Memory
    fewer = with_word m (Count from k) count

    one_due : (due m stocks from k me ≡ 1) × (to_be_posted m stocks from k me ≡ 0) × (posted m stocks from k me ≡ 0)
    one_due = holding_due m stocks n b h from k lfrom lk me lme (held_before k ∙ on)

    due_here : due fewer (after less) from k me ≡ 0
    due_here = due_is fewer (after less) from k me ∙ (λ t. (to_be_posted_same fewer less from k me ∙ one_due.1) t + one_due.2 t + (held_here fewer less k ∙ flipped_here (slice_index s.holds from) k on) t)

    due_else : (i x j : ℕ) → (i ≡ from → x ≡ k → j ≢ me) → due fewer (after less) i x j ≡ due m stocks i x j
    due_else i x j apart = due_same m fewer stocks (after less) n i x j (to_be_posted_same fewer less i x j) refl
        (dite (ℕ_discrete i from)
        (λ a. dite (ℕ_discrete j me)
        (λ e. subst (λ (z : ℕ × ℕ). holding fewer (after less) z.0 x z.1 ≡ holding m stocks z.0 x z.1) (λ t. (sym a t, sym e t))
        (held_here fewer less x ∙ (flipped_else (slice_index s.holds from) k x (λ y. apart a y e) ∙ sym (held_before x))))
        (λ other. held_else fewer less i x j (λ _. other)))
        (λ other. held_else fewer less i x j (λ a. absurd (other a))))

    -- nobody is due who was not
    pub release_due : (i x j : ℕ) → due fewer (after less) i x j ≡ 1 → due m stocks i x j ≡ 1
    release_due i x j one = dite (ℕ_discrete i from)
        (λ a. dite (ℕ_discrete x k)
        (λ y. dite (ℕ_discrete j me)
        (λ e. let d : ℕ = due fewer (after less) from k me in let none : d ≡ 0 = due_here in let some : d ≡ 1 = (λ t. due fewer (after less) (sym a t) (sym y t) (sym e t)) ∙ one in absurd (omega arith))
        (λ other. sym (due_else i x j (λ _ _. other)) ∙ one))
        (λ other. sym (due_else i x j (λ _ z. absurd (other z))) ∙ one))
        (λ other. sym (due_else i x j (λ z. absurd (other z))) ∙ one)

    pub releases : Pool fewer (after less) n b
    releases =
        let old = fits m stocks n b h from k lfrom lk in
        let sum = sum_change (due m stocks from k) (due fewer (after less) from k) n me lme (λ j lj other. sym (due_else from k j (λ _ _. other))) in
        from_each fewer less (xor_lt b (slice_index s.holds from) (2 ^ k) (holds_below m stocks n b h me s is lme from lfrom) (pow_below k b lk))
        (at_buffer (Fits fewer (after less) n) n b from k (record {
          counted = stored_here m (Count from k) count ∙ (let c = old.counted in let d = one_due.0 in let e = due_here in omega arith);
          once = λ j lj. dite (ℕ_discrete j me)
              (λ e. subst (λ (z : ℕ). due fewer (after less) from k z ≤ 1) (sym e) (let z = due_here in omega arith))
              (λ other. subst (λ (z : ℕ). z ≤ 1) (sym (due_else from k j (λ _ _. other))) (old.once j lj));
          others = dite (ℕ_discrete from me)
              (λ e. subst (λ (z : ℕ). due fewer (after less) from k z ≡ 0) (sym e) due_here)
              (λ other. due_else from k from (λ _ _. other) ∙ old.others);
          free = λ e. stored_here m (Count from k) count ∙ (let z = old.free (sym (ap (λ (c : Buffer). c.free) (buffer_same fewer less from k)) ∙ e) in omega arith);
          content = λ p lp. old.content p lp ∙ ap (part_of p) (sym (buffer_same fewer less from k));
          owed = subst (λ (c : Buffer). c.to_post < 2 ^ n) (sym (buffer_same fewer less from k)) old.owed;
        }) (λ i x li lx apart. fits_aside m fewer stocks (after less) n i x li (fits m stocks n b h i x li lx) (count_else m from k i x count apart) (λ p lp. refl) (buffer_same fewer less i x)
        (λ j lj. due_else i x j (λ a y. absurd (apart a y)))))
        h.narrow
