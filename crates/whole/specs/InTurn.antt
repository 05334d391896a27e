-- Things in turn, the first n of f 0, f 1, f 2, ..: joined as lists, added up, or the first that is not 0.
use Rattle.std.specs.Prelude.{ℕ, zero, suc, ◌+◌, ◌-◌, List, [], ◌++◌}

unfoldable pub in_turn : {A : Type 0} → (A → A → A) → A → (ℕ → A) → ℕ → A
in_turn join start f zero = start
in_turn join start f (suc n) = join (in_turn join start f n) (f n)

-- one after another
abbrev pub all_of : {A : Type 0} → (ℕ → List A) → ℕ → List A
all_of f n = in_turn ◌++◌ [] f n

-- f a, f (a + 1), .. before f b
abbrev pub all_between : {A : Type 0} → (ℕ → List A) → ℕ → ℕ → List A
all_between f a b = all_of (λ k. f (a + k)) (b - a)

abbrev pub sum_of : (ℕ → ℕ) → ℕ → ℕ
sum_of f n = in_turn ◌+◌ 0 f n
