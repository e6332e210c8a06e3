-- Pairs of equals are equal.
use Rattle.std.proofs.Common.{◌≡◌, refl, subst}

pub pair_is : {A B : Type 0} (x y : A) (u v : B) → x ≡ y → u ≡ v → ◌≡◌ {A = A × B} (x, u) (y, v)
pair_is {A} {B} x y u v p q = subst (λ z. ◌≡◌ {A = A × B} (x, u) (z, v)) p (subst (λ z. ◌≡◌ {A = A × B} (x, u) (x, z)) q refl)
