-- The part whose next time is the least, of those looked at so far.
use Rattle.std.proofs.Common.{◌≡◌, ℕ, ◌+◌, ◌<◌, ◌≤◌, nat_le, Bool, true, false, inl, inr, refl, sym, ap, subst, ◌∙◌, arith, if◌then◌else◌}
use Rattle.std.specs.Prelude.{Option, Some, None}
use Rattle.std.proofs.lemmas.Option.{none-some}
use Rattle.std.proofs.lemmas.Bool.{cases_lt}
use mathlib.Core.Logic.{dite}
use native.Mathlib.Decide.{ℕ_discrete}
use Rattle.kit_report.specs.Merges.{HaveNoTime, IsSoonest, sooner_of}

abbrev pub IsBest : (ℕ → Option ℕ) → ℕ → Option (ℕ × ℕ) → Type 0
IsBest times count None = HaveNoTime times count
IsBest times count (Some best) = (s : IsSoonest times count best.1) × (s.time ≡ best.0)

some_same : (a b : ℕ) → Some a ≡ Some b → a ≡ b
some_same a b e = ap (λ (o : Option ℕ). elim o [ None ↦ a | (Some x) ↦ x ]) e

pub best_skips : (times : ℕ → Option ℕ) (at : ℕ) (best : Option (ℕ × ℕ)) → IsBest times at best → times at ≡ None → IsBest times (at + 1) best
best_skips times at None none here = λ j lt. dite (ℕ_discrete j at) (λ same. ap times same ∙ here) (λ other. none j (omega arith))
best_skips times at (Some b) s here =
    let inside = s.0.inside in (
      record {
        inside = omega arith;
        time = s.0.time;
        time_is = s.0.time_is;
        least = λ j u lt e. dite (ℕ_discrete j at) (λ same. absurd (none-some u (sym here ∙ (ap times (sym same) ∙ e)))) (λ other. s.0.least j u (omega arith) e);
      },
      s.1,
    )

takes_it : (times : ℕ → Option ℕ) (at time : ℕ) → times at ≡ Some time → ((j u : ℕ) → j < at → times j ≡ Some u → time < u) → IsBest times (at + 1) (Some (time, at))
takes_it times at time here before = (
  record {
    inside = omega arith;
    time = time;
    time_is = here;
    least = λ j u lt e. dite (ℕ_discrete j at)
        (λ same. let t : time ≡ u = some_same time u (sym here ∙ (ap times (sym same) ∙ e)) in inr (t, omega arith))
        (λ other. inl (before j u (omega arith) e));
  },
  refl,
)

pub best_more : (times : ℕ → Option ℕ) (at : ℕ) (best : Option (ℕ × ℕ)) (time : ℕ) → IsBest times at best → times at ≡ Some time → IsBest times (at + 1) (sooner_of best time at)
best_more times at None time none here = takes_it times at time here (λ j u lt e. absurd (none-some u (sym (none j lt) ∙ e)))
best_more times at (Some b) time s here = go (nat_le b.0 time) refl
  where
    go : (c : Bool) → nat_le b.0 time ≡ c → IsBest times (at + 1) (if nat_le b.0 time then Some b else Some (time, at))
    go true is = subst (λ (c : Bool). IsBest times (at + 1) (if c then Some b else Some (time, at))) (sym is)
        (let inside = s.0.inside in let same = s.1 in let le : b.0 ≤ time = search (arith, is) in (
          record {
            inside = omega arith;
            time = s.0.time;
            time_is = s.0.time_is;
            least = λ j u lt e. dite (ℕ_discrete j at)
                (λ now. let t : time ≡ u = some_same time u (sym here ∙ (ap times (sym now) ∙ e)) in
                elim (cases_lt s.0.time u) [ inl less ↦ inl less | inr ge ↦ inr (omega arith, omega arith) ])
                (λ other. s.0.least j u (omega arith) e);
          },
          same,
        ))
    go false is = subst (λ (c : Bool). IsBest times (at + 1) (if c then Some b else Some (time, at))) (sym is)
        (let same = s.1 in let lt : time < b.0 = search (arith, is) in
        takes_it times at time here (λ j u less e. elim (s.0.least j u less e) [ inl a ↦ omega arith | inr a ↦ omega (arith, a.0) ]))
