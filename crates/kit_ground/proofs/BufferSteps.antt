-- The rule of the sets after a step that changes what the seat knows of one of its buffers.
use Rattle.std.proofs.Common.{Bool, true, ◌≡◌, ◌≢◌, ◌⊎◌, inl, inr, ℕ, zero, suc, ◌+◌, ◌*◌, ◌/◌, ◌%◌, ◌^◌, ◌<◌, ◌≤◌, List, length, refl, sym, ap, ◌∙◌, subst, arith, true≢false, length-set}
use Rattle.std.proofs.lemmas.Nat.{pow_below, xor_lt}
use Rattle.std.proofs.lemmas.Nat.Bits.{bit_at-lt}
use Rattle.std.specs.Prelude.{slice_index, bit_or}
use Rattle.std.specs.Int.{bit_at}
use Rattle.std.specs.Int.Count.{ones}
use mathlib.Core.Logic.{dite}
use native.Mathlib.Decide.{ℕ_discrete}
use Rattle.kit_ground.specs.declared.address.Address.TheVariants.{Mail, Count, Part}
use Rattle.kit_ground.specs.declared.place.Buffer.{Buffer}
use Rattle.kit_ground.specs.declared.place.SeatBuffers.{SeatBuffers}
use Rattle.kit_ground.specs.Memory.{Memory, with_word}
use Rattle.kit_ground.specs.Sets.{Pool, buffer_at, due, stock_at, to_be_posted, posted, holding}
use Rattle.kit_ground.specs.Steps.{buffer_of, with_buffer, part_of, buffer_after_look, buffer_after_write, buffer_after_charge, buffer_after_post}
use Rattle.kit_ground.proofs.Bits.{flipped_else, flipped_here, joined_else, joined_here}
use Rattle.kit_ground.proofs.Fits.{Fits, Narrow, at_buffer, due_is, due_same, fits, fits_as_before, fits_aside, pool_from_fits, seat_inside, buffers_long, holds_below, holds_long}
use Rattle.kit_ground.proofs.Memories.{stored_here, count_else, mail_else, part_else}
use Rattle.kit_ground.proofs.MailWords.{same_buffer, whole_buffer}
use Rattle.kit_ground.proofs.Ones.{ones_sum}
use Rattle.kit_ground.proofs.SetFacts.{free_in_none, to_be_posted_due}
use Rattle.kit_ground.proofs.Stocks.{rebuffered, holds_kept, buffer_here, buffer_else}
use Rattle.kit_ground.proofs.Sums.{sum_same}

same_parts : (p : ℕ) (c d : Buffer) → c.head ≡ d.head → c.body ≡ d.body → part_of p c ≡ part_of p d
same_parts zero c d head body = head
same_parts (suc p) c d head body = body

-- a write of the content word p
written_here : (p word : ℕ) (c : Buffer) → part_of p (buffer_after_write p word c) ≡ word
written_here zero word c = refl
written_here (suc p) word c = refl

written_else : (p q word : ℕ) (c : Buffer) → p < 2 → q < 2 → q ≢ p → part_of q (buffer_after_write p word c) ≡ part_of q c
written_else zero zero word c lp lq apart = absurd (apart refl)
written_else zero (suc q) word c lp lq apart = refl
written_else (suc p) zero word c lp lq apart = refl
written_else (suc p) (suc q) word c lp lq apart = absurd (apart (omega arith))

written_free : (p word : ℕ) (c : Buffer) → (buffer_after_write p word c).free ≡ c.free
written_free zero word c = refl
written_free (suc p) word c = refl

written_to_post : (p word : ℕ) (c : Buffer) → (buffer_after_write p word c).to_post ≡ c.to_post
written_to_post zero word c = refl
written_to_post (suc p) word c = refl

-- the seat `me` has the stock s
module _ (m : Memory) (stocks : List SeatBuffers) (n b me : ℕ) (s : SeatBuffers) (h : Pool m stocks n b) (is : stock_at stocks me ≡ s) (lme : me < n) where
  inside : me < length stocks
  inside = seat_inside m stocks n b h me lme

  long_buffers : length s.buffers ≡ b
  long_buffers = buffers_long m stocks n b h me s is lme

  long_holds : length s.holds ≡ n
  long_holds = holds_long m stocks n b h me s is lme

  module _ (k : ℕ) (lk : k < b) where
    abbrev after : Buffer → List SeatBuffers
    after c = rebuffered stocks me s k c

    abbrev old : Buffer
    old = buffer_of s k

    was : buffer_at m stocks me k ≡ old
    was = ap (λ (q : SeatBuffers). buffer_of q k) is

    now_is : (now : Memory) (c : Buffer) → buffer_at now (after c) me k ≡ c
    now_is now c = buffer_here stocks me s is inside k c (let l = long_buffers in omega arith)

    holding_same : (now : Memory) (c : Buffer) (i x j : ℕ) → holding now (after c) i x j ≡ holding m stocks i x j
    holding_same now c i x j = ap (λ (l : List ℕ). bit_at (slice_index l i) x) (holds_kept stocks me s is inside k c j)

    -- all other buffers are as before, and so is the whole where this one fits
    from_here : (now : Memory) (c : Buffer) → Fits now (after c) n me k
        → ((i x : ℕ) → (i ≡ me → x ≢ k) → now (Count i x) ≡ m (Count i x))
        → ((i x p : ℕ) → (i ≡ me → x ≢ k) → now (Part i x p) ≡ m (Part i x p))
        → ((i x j : ℕ) → (i ≡ me → x ≢ k) → posted now (after c) i x j ≡ posted m stocks i x j)
        → Narrow now n b → Pool now (after c) n b
    from_here now c here count parts mail narrow =
        pool_from_fits m stocks n b h now me (with_buffer k c s) inside (length-set s.buffers k c ∙ long_buffers) long_holds (holds_below m stocks n b h me s is lme)
        (at_buffer (Fits now (after c) n) n b me k here (λ i x li lx apart.
        let buffer : buffer_at now (after c) i x ≡ buffer_at m stocks i x = buffer_else stocks me s is inside k c i x apart in
        fits_aside m now stocks (after c) n i x li (fits m stocks n b h i x li lx) (count i x apart) (λ p lp. parts i x p apart) buffer
        (λ j lj. due_same m now stocks (after c) n i x j (ap (λ (d : Buffer). bit_at d.to_post j) buffer) (mail i x j apart) (holding_same now c i x j))))
        narrow

    fits_here : Fits m stocks n me k
    fits_here = fits m stocks n b h me k lme lk

    -- due as before: the buffer is to be posted to the same, and mail is as before
    due_kept : (now : Memory) (c : Buffer) → c.to_post ≡ old.to_post → ((j : ℕ) → posted now (after c) me k j ≡ posted m stocks me k j) → (j : ℕ) → j < n → due now (after c) me k j ≡ due m stocks me k j
    due_kept now c post mail j lj = due_same m now stocks (after c) n me k j
        (ap (λ (d : Buffer). bit_at d.to_post j) (now_is now c) ∙ (ap (λ (x : ℕ). bit_at x j) post ∙ ap (λ (d : Buffer). bit_at d.to_post j) (sym was)))
        (mail j) (holding_same now c me k j)

    owed_here : (now : Memory) (c : Buffer) → c.to_post < 2 ^ n → (buffer_at now (after c) me k).to_post < 2 ^ n
    owed_here now c small = subst (λ (d : Buffer). d.to_post < 2 ^ n) (sym (now_is now c)) small

    -- what was still to be posted is for federates that there are
    owed_before : old.to_post < 2 ^ n
    owed_before = subst (λ (d : Buffer). d.to_post < 2 ^ n) was fits_here.owed

    content_kept : (now : Memory) (c : Buffer) → c.head ≡ old.head → c.body ≡ old.body → ((p : ℕ) → now (Part me k p) ≡ m (Part me k p)) → (p : ℕ) → p < 2 → now (Part me k p) ≡ part_of p (buffer_at now (after c) me k)
    content_kept now c head body parts p lp =
        parts p ∙ (fits_here.content p lp ∙ (ap (part_of p) was ∙ (sym (same_parts p c old head body) ∙ ap (part_of p) (sym (now_is now c)))))

    -- ---- who is due, where what is still to be posted is as before
    to_be_posted_same : (now : Memory) (c : Buffer) → c.to_post ≡ old.to_post → (i x j : ℕ) → to_be_posted now (after c) i x j ≡ to_be_posted m stocks i x j
    to_be_posted_same now c same i x j = dite (ℕ_discrete i me)
        (λ mine. dite (ℕ_discrete x k)
        (λ here. (λ t. bit_at (buffer_at now (after c) (mine t) (here t)).to_post j)
        ∙ (ap (λ (d : Buffer). bit_at d.to_post j) (now_is now c)
        ∙ (ap (λ (y : ℕ). bit_at y j) same
        ∙ (ap (λ (d : Buffer). bit_at d.to_post j) (sym was) ∙ (λ t. bit_at (buffer_at m stocks (sym mine t) (sym here t)).to_post j)))))
        (λ other. ap (λ (d : Buffer). bit_at d.to_post j) (buffer_else stocks me s is inside k c i x (λ _. other))))
        (λ other. ap (λ (d : Buffer). bit_at d.to_post j) (buffer_else stocks me s is inside k c i x (λ a. absurd (other a))))

    due_all : (now : Memory) (c : Buffer) → c.to_post ≡ old.to_post → ((i x j : ℕ) → posted now (after c) i x j ≡ posted m stocks i x j) → (i x j : ℕ) → due now (after c) i x j ≡ due m stocks i x j
    due_all now c same mail i x j = due_same m now stocks (after c) n i x j (to_be_posted_same now c same i x j) (mail i x j) (holding_same now c i x j)

    pub see_due : (free : Bool) (i x j : ℕ) → due m (after (buffer_after_look free old)) i x j ≡ due m stocks i x j
    see_due free = due_all m (buffer_after_look free old) refl (λ i x j. refl)

    pub write_due : (p word i x j : ℕ) → due (with_word m (Part me k p) word) (after (buffer_after_write p word old)) i x j ≡ due m stocks i x j
    write_due p word = due_all (with_word m (Part me k p) word) (buffer_after_write p word old) (written_to_post p word old) (λ i x j. refl)

    -- ---- a look at the count
    pub sees : (free : Bool) → (free ≡ true → m (Count me k) ≡ 0) → Pool m (after (buffer_after_look free old)) n b
    sees free none =
        let c : Buffer = buffer_after_look free old in
        from_here m c (fits_as_before m m stocks (after c) n me k lme fits_here refl (due_kept m c refl (λ j. refl))
        (λ e. none (sym (ap (λ (d : Buffer). d.free) (now_is m c)) ∙ e))
        (content_kept m c refl refl (λ p. refl))
        (owed_here m c owed_before))
        (λ i x apart. refl) (λ i x p apart. refl) (λ i x j apart. refl) h.narrow

    -- ---- a write of a content word
    pub writes : (p word : ℕ) → p < 2 → Pool (with_word m (Part me k p) word) (after (buffer_after_write p word old)) n b
    writes p word lp =
        let c : Buffer = buffer_after_write p word old in
        let now : Memory = with_word m (Part me k p) word in
        let content : (q : ℕ) → q < 2 → now (Part me k q) ≡ part_of q (buffer_at now (after c) me k) =
        λ q lq. dite (ℕ_discrete q p)
        (λ same. subst (λ (x : ℕ). now (Part me k x) ≡ part_of x (buffer_at now (after c) me k)) (sym same)
        (stored_here m (Part me k p) word ∙ (sym (written_here p word old) ∙ ap (part_of p) (sym (now_is now c)))))
        (λ apart. part_else m me k p me k q word (λ _ _. apart) ∙ (fits_here.content q lq ∙ (ap (part_of q) was ∙ (sym (written_else p q word old lp lq apart) ∙ ap (part_of q) (sym (now_is now c)))))) in
        from_here now c (fits_as_before m now stocks (after c) n me k lme fits_here refl (due_kept now c (written_to_post p word old) (λ j. refl))
        (λ e. fits_here.free (ap (λ (d : Buffer). d.free) was ∙ (sym (written_free p word old) ∙ (sym (ap (λ (d : Buffer). d.free) (now_is now c)) ∙ e))))
        content
        (owed_here now c (subst (λ (x : ℕ). x < 2 ^ n) (sym (written_to_post p word old)) owed_before)))
        (λ i x apart. refl) (λ i x q apart. part_else m me k p i x q word (λ a e. absurd (apart a e))) (λ i x j apart. refl) h.narrow

    -- ---- a charge
    -- from then on those of the mask are due
    charge_here : (mask : ℕ) → old.free ≡ true → (j : ℕ) → j < n → due (with_word m (Count me k) (ones mask)) (after (buffer_after_charge mask old)) me k j ≡ bit_at mask j
    charge_here mask free j lj =
        let c : Buffer = buffer_after_charge mask old in
        let now : Memory = with_word m (Count me k) (ones mask) in
        let none = free_in_none m stocks n b h me k lme lk j lj (ap (λ (d : Buffer). d.free) was ∙ free) in
        due_is now (after c) me k j ∙ ((λ t. bit_at (now_is now c t).to_post j + none.posted t + (holding_same now c me k j ∙ none.holding) t) ∙ omega arith)

    -- and for other buffers as many as before
    charge_else : (mask i x j : ℕ) → (i ≡ me → x ≢ k) → due (with_word m (Count me k) (ones mask)) (after (buffer_after_charge mask old)) i x j ≡ due m stocks i x j
    charge_else mask i x j apart =
        let c : Buffer = buffer_after_charge mask old in
        let now : Memory = with_word m (Count me k) (ones mask) in
        due_same m now stocks (after c) n i x j (ap (λ (d : Buffer). bit_at d.to_post j) (buffer_else stocks me s is inside k c i x apart)) refl (holding_same now c i x j)

    pub charge_due : (mask : ℕ) → old.free ≡ true → (i x j : ℕ) → j < n → due (with_word m (Count me k) (ones mask)) (after (buffer_after_charge mask old)) i x j ≡ 1
        → (due m stocks i x j ≡ 1) ⊎ ((i ≡ me) × (x ≡ k) × (bit_at mask j ≡ 1))
    charge_due mask free i x j lj one = dite (ℕ_discrete i me)
        (λ mine. dite (ℕ_discrete x k)
        (λ here. inr (mine, here, sym (charge_here mask free j lj) ∙ ((λ t. due (with_word m (Count me k) (ones mask)) (after (buffer_after_charge mask old)) (sym mine t) (sym here t) j) ∙ one)))
        (λ other. inl (sym (charge_else mask i x j (λ _. other)) ∙ one)))
        (λ other. inl (sym (charge_else mask i x j (λ a. absurd (other a))) ∙ one))

    pub charges : (mask : ℕ) → old.free ≡ true → mask < 2 ^ n → bit_at mask me ≡ 0 → Pool (with_word m (Count me k) (ones mask)) (after (buffer_after_charge mask old)) n b
    charges mask free narrow without =
        let c : Buffer = buffer_after_charge mask old in
        let now : Memory = with_word m (Count me k) (ones mask) in
        let due_here = charge_here mask free in
        from_here now c (record {
          counted = stored_here m (Count me k) (ones mask) ∙ sym (sum_same (due now (after c) me k) (λ j. bit_at mask j) n due_here ∙ ones_sum n mask narrow);
          once = λ j lj. subst (λ (x : ℕ). x ≤ 1) (sym (due_here j lj)) (let l = bit_at-lt mask j in omega arith);
          others = due_here me lme ∙ without;
          free = λ e. absurd (true≢false (sym e ∙ ap (λ (d : Buffer). d.free) (now_is now c)));
          content = content_kept now c refl refl (λ p. refl);
          owed = owed_here now c narrow;
        })
        (λ i x apart. count_else m me k i x (ones mask) apart) (λ i x p apart. refl) (λ i x j apart. refl) h.narrow

    -- ---- a post
    module _ (j : ℕ) (lj : j < n) (on : bit_at old.to_post j ≡ 1) where
      abbrev c : Buffer
      c = buffer_after_post j old

      abbrev w : ℕ
      w = k / 64

      abbrev mail : ℕ
      mail = m (Mail j me w)

      abbrev more : ℕ
      more = bit_or mail (2 ^ (k % 64))

      abbrev now : Memory
      now = with_word m (Mail j me w) more

      mail_here : now (Mail j me w) ≡ more
      mail_here = stored_here m (Mail j me w) more

      posted_else : (i x y : ℕ) → (i ≡ me → x ≡ k → y ≢ j) → posted now (after c) i x y ≡ posted m stocks i x y
      posted_else i x y apart = dite (ℕ_discrete i me)
          (λ mine. dite (ℕ_discrete y j)
          (λ same. dite (ℕ_discrete (x / 64) w)
          (λ word. (λ t. bit_at (now (Mail (same t) (mine t) (word t))) (x % 64)) ∙ (ap (λ (v : ℕ). bit_at v (x % 64)) mail_here ∙ (joined_else mail (k % 64) (x % 64) (λ e. apart mine (same_buffer x k word e) same) ∙ (λ t. bit_at (m (Mail (sym same t) (sym mine t) (sym word t))) (x % 64)))))
          (λ other. ap (λ (v : ℕ). bit_at v (x % 64)) (mail_else m j me w y i (x / 64) more (λ _ _. other))))
          (λ other. ap (λ (v : ℕ). bit_at v (x % 64)) (mail_else m j me w y i (x / 64) more (λ _ e. absurd (other e)))))
          (λ other. ap (λ (v : ℕ). bit_at v (x % 64)) (mail_else m j me w y i (x / 64) more (λ e. absurd (other e))))

      due_moved : due now (after c) me k j ≡ due m stocks me k j
      due_moved =
          let before : to_be_posted m stocks me k j ≡ 1 = ap (λ (d : Buffer). bit_at d.to_post j) was ∙ on in
          let one = to_be_posted_due m stocks n b h me k lme lk j lj before in
          due_is now (after c) me k j
          ∙ ((λ t. (ap (λ (d : Buffer). bit_at d.to_post j) (now_is now c) ∙ flipped_here old.to_post j on) t + (ap (λ (v : ℕ). bit_at v (k % 64)) mail_here ∙ joined_here mail (k % 64)) t + (holding_same now c me k j ∙ one.2) t) ∙ sym one.0)

      due_of_buffer : (y : ℕ) → y < n → due now (after c) me k y ≡ due m stocks me k y
      due_of_buffer y ly = dite (ℕ_discrete y j)
          (λ e. subst (λ (z : ℕ). due now (after c) me k z ≡ due m stocks me k z) (sym e) due_moved)
          (λ other. due_same m now stocks (after c) n me k y
          (ap (λ (d : Buffer). bit_at d.to_post y) (now_is now c) ∙ (flipped_else old.to_post j y other ∙ ap (λ (d : Buffer). bit_at d.to_post y) (sym was)))
          (posted_else me k y (λ _ _. other)) (holding_same now c me k y))

      due_of_others : (i x y : ℕ) → (i ≡ me → x ≢ k) → due now (after c) i x y ≡ due m stocks i x y
      due_of_others i x y apart = due_same m now stocks (after c) n i x y (ap (λ (d : Buffer). bit_at d.to_post y) (buffer_else stocks me s is inside k c i x apart)) (posted_else i x y (λ a e. absurd (apart a e))) (holding_same now c i x y)

      pub post_due : (i x y : ℕ) → y < n → due now (after c) i x y ≡ due m stocks i x y
      post_due i x y ly = dite (ℕ_discrete i me)
          (λ mine. dite (ℕ_discrete x k)
          (λ here. subst (λ (z : ℕ × ℕ). due now (after c) z.0 z.1 y ≡ due m stocks z.0 z.1 y) (λ t. (sym mine t, sym here t)) (due_of_buffer y ly))
          (λ other. due_of_others i x y (λ _. other)))
          (λ other. due_of_others i x y (λ a. absurd (other a)))

      pub posts : Pool now (after c) n b
      posts =
          let narrow_here : (x : ℕ) → bit_at (now (Mail j me w)) x ≡ 1 → (x < 64) × (64 * w + x < b) =
          λ x is. dite (ℕ_discrete x (k % 64))
          (λ e. let whole = whole_buffer k in (omega arith, omega arith))
          (λ other. h.narrow j me w x lj lme (sym (joined_else mail (k % 64) x other) ∙ (ap (λ (v : ℕ). bit_at v x) (sym mail_here) ∙ is))) in
          let narrow_else : (y i v x : ℕ) → y < n → i < n → (i ≡ me → y ≡ j → v ≢ w) → bit_at (now (Mail y i v)) x ≡ 1 → (x < 64) × (64 * v + x < b) =
          λ y i v x ly li apart is. h.narrow y i v x ly li (ap (λ (z : ℕ). bit_at z x) (sym (mail_else m j me w y i v more apart)) ∙ is) in
          from_here now c (fits_as_before m now stocks (after c) n me k lme fits_here refl due_of_buffer
          (λ e. fits_here.free (ap (λ (d : Buffer). d.free) was ∙ (sym (ap (λ (d : Buffer). d.free) (now_is now c)) ∙ e)))
          (content_kept now c refl refl (λ p. refl))
          (owed_here now c (xor_lt n old.to_post (2 ^ j) owed_before (pow_below j n lj))))
          (λ i x apart. refl) (λ i x p apart. refl) (λ i x y apart. posted_else i x y (λ a e. absurd (apart a e)))
          (λ y i v x ly li. dite (ℕ_discrete i me)
          (λ mine. dite (ℕ_discrete y j)
          (λ e. dite (ℕ_discrete v w)
          (λ word. subst (λ (z : ℕ × ℕ × ℕ). bit_at (now (Mail z.0 z.1 z.2)) x ≡ 1 → (x < 64) × (64 * z.2 + x < b)) (λ t. (sym e t, sym mine t, sym word t)) (narrow_here x))
          (λ other. narrow_else y i v x ly li (λ _ _. other)))
          (λ other. narrow_else y i v x ly li (λ _ a. absurd (other a))))
          (λ other. narrow_else y i v x ly li (λ a. absurd (other a))))
