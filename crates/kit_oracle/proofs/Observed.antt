-- What an observer shows, with more lines.
use Rattle.std.proofs.Common.{◌≡◌, ℕ, zero, suc, ◌+◌, List, [], ◌∷◌, ◌++◌, None, arith, sym, subst, ap, ◌∙◌, add-one}
use Rattle.std.proofs.lemmas.List.{append_assoc, append-nil}
use Rattle.kit_base.specs.declared.history.Line.{Line}
use Rattle.kit_rules.specs.Parts.{Parts}
use Rattle.kit_rules.specs.Simulation.{World, world_after_pair, next_grant, world_at_start, after_grants}
use Rattle.kit_laws.proofs.Rising.{after_suc}
use Rattle.kit_oracle.specs.Observing.{Adds}

module _ {O : Type 0} (shows : Parts → ℕ → List Line → O → Type 0) where
  -- no lines are none
  pub adds_none : (a : O) → Adds shows a a []
  adds_none a p n ls h = let P : List Line → Type 0 = λ xs. shows p n xs a in subst P (sym (append-nil ls)) h

  -- lines, and then more, are all of them
  pub adds_more : (a b c : O) (xs ys : List Line) → Adds shows a b xs → Adds shows b c ys → Adds shows a c (xs ++ ys)
  adds_more a b c xs ys f g p n ls h = let P : List Line → Type 0 = λ zs. shows p n zs c in subst P (append_assoc ls xs ys) (g p n (ls ++ xs) (f p n ls h))

  -- the same lines by another name
  pub adds_same : (a b : O) (xs ys : List Line) → xs ≡ ys → Adds shows a b xs → Adds shows a b ys
  adds_same a b xs ys e f = let P : List Line → Type 0 = λ zs. Adds shows a b zs in subst P e f

  -- where one that is shown these lines more comes to an end, another comes there with those
  abbrev pub Comes : O → O → List Line → List Line → Type 0
  Comes a b xs ys = (end : O) → Adds shows b end xs → Adds shows a end ys

  -- at the beginning
  pub comes_first : (a : O) (xs : List Line) → Comes a a xs xs
  comes_first a xs end f = f

  -- at the end
  pub comes_last : (a b : O) (ys : List Line) → Comes a b [] ys → Adds shows a b ys
  comes_last a b ys f = f b (adds_none b)

  -- and one line more on the way
  pub comes_more : (a b c : O) (x : Line) (xs ys zs : List Line) → Comes a b xs ys → Adds shows b c (x ∷ []) → xs ≡ x ∷ zs → Comes a c zs ys
  comes_more a b c x xs ys zs f g e end h = f end (adds_same b end (x ∷ zs) xs (sym e) (adds_more b c end (x ∷ []) zs g h))

  -- where nobody waits, further turns change nothing
  pub still_shows : ((p : Parts) (n : ℕ) (ls : List Line) (s : O) → next_grant p (after_grants p n (world_at_start p)) ≡ None → shows p n ls s → shows p (n + 1) ls s)
      → (p : Parts) (n k m : ℕ) (ls : List Line) (s : O) → n + k ≡ m → next_grant p (after_grants p n (world_at_start p)) ≡ None → shows p n ls s → shows p m ls s
  still_shows law p n zero m ls s e none h = let P : ℕ → Type 0 = λ t. shows p t ls s in let same : n ≡ m = omega arith in subst P same h
  still_shows law p n (suc k) m ls s e none h =
      let P : World → Type 0 = λ w. next_grant p w ≡ None in
      let w = after_grants p n (world_at_start p) in
      let same : w ≡ after_grants p (n + 1) (world_at_start p) = sym (ap (λ (t : ℕ). after_grants p t (world_at_start p)) (add-one n) ∙ after_suc p n (world_at_start p) ∙ ap (world_after_pair p w) none) in
      still_shows law p (n + 1) k m ls s (omega arith) (subst P same none) (law p n ls s none h)
