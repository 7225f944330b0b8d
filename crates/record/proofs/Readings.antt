-- What it says of the bytes that a reading is accepted, and when one is. Assumes nothing.
use Rattle.std.proofs.Common.{◌≡◌, ℕ, ◌≤◌, Bool, true, false, cond, List, [], ◌∷◌, ◌++◌, length, drop, Ok, Err, Result, sym, refl, ap, ◌∙◌, append_assoc}
use Rattle.record.specs.Steps.{Read, then_read, inside, ahead}

-- Taking an accepted reading apart
pub then_ok : {S T E : Type 0} (r : Result S E) (next : S → Result T E) (x : T) → then_read r next ≡ Ok x → (y : S) × (r ≡ Ok y) × (next y ≡ Ok x)
then_ok (Ok y) next x h = (y, refl, h)
then_ok (Err e) next x h = cc

pub inside_ok : {T E F : Type 0} (wrap : E → F) (r : Result T E) (x : T) → inside wrap r ≡ Ok x → r ≡ Ok x
inside_ok wrap (Ok y) x h = cc
inside_ok wrap (Err e) x h = cc

-- two accepted readings are one only if value and place are
pub same_read : {T E : Type 0} (x y : T) (a b : ℕ) → ◌≡◌ {A = Read T E} (Ok (x, a)) (Ok (y, b)) → (x ≡ y) × (a ≡ b)
same_read {T} x y a b h = let e : ◌≡◌ {A = T × ℕ} (x, a) (y, b) = cc in (ap (λ (p : T × ℕ). p.0) e, ap (λ (p : T × ℕ). p.1) e)

pub ahead_ok : {T E : Type 0} (x : T) (r : Read (List T) E) (xs : List T) (to : ℕ) → ahead x r ≡ Ok (xs, to) → (ys : List T) × (r ≡ Ok (ys, to)) × (xs ≡ x ∷ ys)
ahead_ok x (Ok g) xs to h = let p = same_read (x ∷ g.0) xs g.1 to h in (g.0, ap (λ k. Ok (g.0, k)) p.1, sym p.0)
ahead_ok x (Err e) xs to h = cc

pub cond_ok : {T E : Type 0} (b : Bool) (r : Result T E) (e : E) (x : T) → cond b r (Err e) ≡ Ok x → (b ≡ true) × (r ≡ Ok x)
cond_ok true r e x h = (refl, h)
cond_ok false r e x h = cc

pub else_ok : {T E : Type 0} (b : Bool) (r : Result T E) (e : E) (x : T) → cond b (Err e) r ≡ Ok x → (b ≡ false) × (r ≡ Ok x)
else_ok false r e x h = (refl, h)
else_ok true r e x h = cc

-- The bytes `e` stand from `at` up to `to`.
pub record Took (bs : List ℕ) (at : ℕ) (e : List ℕ) (to : ℕ) : Type 0 where
  pub these : drop at bs ≡ e ++ drop to bs
  pub inside_it : to ≤ length bs

pub took_none : (bs : List ℕ) (at : ℕ) → at ≤ length bs → Took bs at [] at
took_none bs at h = record { these = refl; inside_it = h }

pub took_both : (bs e f : List ℕ) (a b c : ℕ) → Took bs a e b → Took bs b f c → Took bs a (e ++ f) c
took_both bs e f a b c p q =
    record { these = p.these ∙ (ap (λ k. e ++ k) q.these ∙ sym (append_assoc e f (drop c bs))); inside_it = q.inside_it }

-- The reading is accepted with `v`, and `t` is what is left.
abbrev pub Gives : {T E : Type 0} → List ℕ → List ℕ → Read T E → T → Type 0
Gives bs t r v = (to : ℕ) × (r ≡ Ok (v, to)) × (drop to bs ≡ t)

pub gives_then : {S T E : Type 0} (bs u t : List ℕ) (r : Read S E) (next : S × ℕ → Read T E) (v : S) (w : T) → Gives bs u r v → ((to : ℕ) → drop to bs ≡ u → Gives bs t (next (v, to)) w) → Gives bs t (then_read r next) w
gives_then bs u t r next v w g k =
    let h = k g.0 g.2 in
    (h.0, (rw g.1 h.1), h.2)

pub gives_inside : {T E F : Type 0} (wrap : E → F) (bs t : List ℕ) (r : Read T E) (v : T) → Gives bs t r v → Gives bs t (inside wrap r) v
gives_inside wrap bs t r v g = (g.0, rw g.1, g.2)

pub gives_ahead : {T E : Type 0} (bs t : List ℕ) (x : T) (r : Read (List T) E) (xs : List T) → Gives bs t r xs → Gives bs t (ahead x r) (x ∷ xs)
gives_ahead bs t x r xs g = (g.0, rw g.1, g.2)
