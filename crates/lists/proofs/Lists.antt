-- Laws of All, Occurs, Distinct, AtLeast and Number.
use Prim.Native.Nat.{ℕ, zero, suc, ◌+◌, ◌*◌, ◌≤◌, ◌<◌}
use mathlib.Core.Path.{◌≡◌, refl, sym, ap, ap₂, ◌∙◌, subst}
use mathlib.Core.Logic.Dec
use mathlib.Core.Logic.{◌⊎◌, inl, inr, ◌↔◌, ⊎_map, ⊎_elim}
use mathlib.Core.List.{List, [], ◌∷◌, ◌++◌, map}
use lib.ListN.{length, length-append, length-map}
use native.Mathlib.Omega.{arith}
use native.Mathlib.Decide.{ℕ_discrete}
use Rattle.lists.proofs.Decide.{dec_or}
use Rattle.lists.specs.Lists.{All, Occurs, Distinct, AtLeast, Number}

-- ── Every element ──
module _ {A : Type 0} (B : A → Type 0) where
  pub all_append : (xs ys : List A) → All B (xs ++ ys) ↔ (All B xs × All B ys)
  all_append [] ys = (λ h. (tt, h), λ h. h.1)
  all_append (x ∷ xs) ys =
      (λ h. let r = (all_append xs ys).0 h.1 in ((h.0, r.0), r.1), λ h. (h.0.0, (all_append xs ys).1 (h.0.1, h.1)))

  pub all_occurs : (xs : List A) → All B xs ↔ ((a : A) → Occurs a xs → B a)
  all_occurs [] = (λ h a o. absurd o, λ f. tt)
  all_occurs (x ∷ xs) = (
    (λ h a o. ⊎_elim (λ e. subst B (sym e) h.0) ((all_occurs xs).0 h.1 a) o),
    λ f. (f x (inl refl), (all_occurs xs).1 (λ a o. f a (inr o))),
  )

  -- what follows from B holds of every element, and of every image
  pub all_map : {D : Type 0} (C : D → Type 0) (f : A → D) → ((a : A) → B a → C (f a)) → (xs : List A) → All B xs → All C (map f xs)
  all_map C f g [] h = tt
  all_map C f g (x ∷ xs) h = (g x h.0, all_map C f g xs h.1)

  pub all_imp : (C : A → Type 0) → ((a : A) → B a → C a) → (xs : List A) → All B xs → All C xs
  all_imp C g [] h = tt
  all_imp C g (x ∷ xs) h = (g x h.0, all_imp C g xs h.1)

pub all_dec : {A : Type 0} {B : A → Type 0} → ((a : A) → Dec (B a)) → (xs : List A) → Dec (All B xs)
all_dec d [] = yes tt
all_dec d (x ∷ xs) = Dec.and (d x) (all_dec d xs)

-- where g undoes f, map g undoes map f
pub map_back : {A B : Type 0} (f : A → B) (g : B → A) (xs : List A) → All (λ a. g (f a) ≡ a) xs → map g (map f xs) ≡ xs
map_back f g [] h = refl
map_back {A} f g (x ∷ xs) h = ap₂ {C = List A} (λ y ys. y ∷ ys) h.0 (map_back f g xs h.1)

-- ── Membership ──
module _ {A : Type 0} where
  pub occurs_left : (a : A) (xs ys : List A) → Occurs a xs → Occurs a (xs ++ ys)
  occurs_left a [] ys h = absurd h
  occurs_left a (x ∷ xs) ys (inl e) = inl e
  occurs_left a (x ∷ xs) ys (inr h) = inr (occurs_left a xs ys h)

  pub occurs_right : (a : A) (xs ys : List A) → Occurs a ys → Occurs a (xs ++ ys)
  occurs_right a [] ys h = h
  occurs_right a (x ∷ xs) ys h = inr (occurs_right a xs ys h)

  pub occurs_append : (a : A) (xs ys : List A) → Occurs a (xs ++ ys) → Occurs a xs ⊎ Occurs a ys
  occurs_append a [] ys h = inr h
  occurs_append a (x ∷ xs) ys (inl e) = inl (inl e)
  occurs_append a (x ∷ xs) ys (inr h) = ⊎_map (λ o. inr o) (λ o. o) (occurs_append a xs ys h)

  pub occurs_dec : Discrete A → (a : A) (xs : List A) → Dec (Occurs a xs)
  occurs_dec d a [] = no (λ h. h)
  occurs_dec d a (x ∷ xs) = dec_or (d a x) (occurs_dec d a xs)

  -- take one occurrence out
  pub remove : (a : A) (ys : List A) → Occurs a ys → (zs : List A) × (length ys ≡ suc (length zs)) × ((z : A) → Occurs z ys → (z ≡ a) ⊎ Occurs z zs)
  remove a [] h = absurd h
  remove a (y ∷ ys) (inl e) = (ys, refl, λ z o. ⊎_map (λ f. f ∙ sym e) (λ p. p) o)
  remove a (y ∷ ys) (inr h) = let (zs, l, f) = remove a ys h in (y ∷ zs, ap suc l, λ z o. go zs f z o)
    where
      go : (zs : List A) → ((z : A) → Occurs z ys → (z ≡ a) ⊎ Occurs z zs) → (z : A) → (z ≡ y) ⊎ Occurs z ys → (z ≡ a) ⊎ ((z ≡ y) ⊎ Occurs z zs)
      go zs f z (inl e) = inr (inl e)
      go zs f z (inr o) = ⊎_map (λ e. e) (λ p. inr p) (f z o)

pub occurs_map : {A B : Type 0} (f : A → B) (a : A) (xs : List A) → Occurs a xs → Occurs (f a) (map f xs)
occurs_map f a [] h = absurd h
occurs_map f a (x ∷ xs) (inl e) = inl (ap f e)
occurs_map f a (x ∷ xs) (inr h) = inr (occurs_map f a xs h)

-- ── Pigeonhole ──
module _ {A B : Type 0} (f : A → B) where
  pub pigeon : (xs : List A) (ys : List B) → Distinct xs → ((a : A) → Occurs a xs → Occurs (f a) ys)
      → ((a b : A) → Occurs a xs → Occurs b xs → f a ≡ f b → a ≡ b) → length xs ≤ length ys
  pigeon [] ys d s inj = omega arith
  pigeon (x ∷ xs) ys (nx, d) s inj =
      let (zs, l, g) = remove (f x) ys (s x (inl refl)) in
      let r = pigeon xs zs d (λ a o. left zs a o (g (f a) (s a (inr o)))) (λ a b o p e. inj a b (inr o) (inr p) e) in
      omega arith
    where
      left : (zs : List B) (a : A) → Occurs a xs → (f a ≡ f x) ⊎ Occurs (f a) zs → Occurs (f a) zs
      left zs a o (inl e) = absurd (nx (subst (λ z. Occurs z xs) (inj a x (inr o) (inl refl) e) o))
      left zs a o (inr p) = p

pub number_one : {A : Type 0} {B : A → Type 0} {n m : ℕ} → Number B n → Number B m → n ≡ m
number_one {A} {B} {n} {m} h g =
    let le = pigeon (λ (a : A). a) h.list g.list h.distinct (λ a o. g.all a (h.only a o)) (λ a b o p e. e) in
    let ge = pigeon (λ (a : A). a) g.list h.list g.distinct (λ a o. h.all a (g.only a o)) (λ a b o p e. e) in
    let i = h.long in let j = g.long in
    omega arith

-- ── How many there are ──
module _ {A : Type 0} where
  pub number_none : (B : A → Type 0) → ((a : A) → ¬ B a) → Number B 0
  number_none B f = record { list = []; all = λ a h. absurd (f a h); only = λ a o. absurd o; distinct = tt; long = refl }

  pub number_single : (a : A) → Number (λ (x : A). x ≡ a) 1
  number_single a = record { list = a ∷ []; all = λ x e. inl e; only = λ x o. ⊎_elim (λ e. e) (λ n. absurd n) o; distinct = (λ o. o, tt); long = refl }

  pub number_iff : {B C : A → Type 0} {n : ℕ} → ((a : A) → B a ↔ C a) → Number B n → Number C n
  number_iff e h = record { list = h.list; all = λ a c. h.all a ((e a).1 c); only = λ a o. (e a).0 (h.only a o); distinct = h.distinct; long = h.long }

  distinct_append : (xs ys : List A) → Distinct xs → Distinct ys → ((a : A) → Occurs a xs → ¬ Occurs a ys) → Distinct (xs ++ ys)
  distinct_append [] ys d e f = e
  distinct_append (x ∷ xs) ys (n, d) e f = (λ o. ⊎_elim n (f x (inl refl)) (occurs_append x xs ys o), distinct_append xs ys d e (λ a o. f a (inr o)))

  -- of two kinds that have nothing in common: the sum
  pub number_add : {B C : A → Type 0} {n m : ℕ} → Number B n → Number C m → ((a : A) → B a → ¬ C a) → Number (λ (a : A). B a ⊎ C a) (n + m)
  number_add {n} {m} h g f = record {
    list = h.list ++ g.list;
    all = λ a c. ⊎_elim (λ b. occurs_left a h.list g.list (h.all a b)) (λ c. occurs_right a h.list g.list (g.all a c)) c;
    only = λ a o. ⊎_map (h.only a) (g.only a) (occurs_append a h.list g.list o);
    distinct = distinct_append h.list g.list h.distinct g.distinct (λ a o p. f a (h.only a o) (g.only a p));
    long = length-append h.list g.list ∙ ap₂ (λ x y. x + y) h.long g.long;
  }

  -- of two kinds that have something in common: less than the sum
  pub number_shared : {B C : A → Type 0} {n m l : ℕ} → Number B n → Number C m → Number (λ (a : A). B a ⊎ C a) l → (a : A) → B a → C a → l < n + m
  number_shared {B} {C} h g k a b c =
      let (zs, e, f) = remove a g.list (g.all a c) in
      let r = pigeon (λ (x : A). x) k.list (h.list ++ zs) k.distinct (λ x o. either zs f x (k.only x o)) (λ x y o p e. e) in
      let i = length-append h.list zs in
      let n = h.long in let m = g.long in let l = k.long in
      omega arith
    where
      either : (zs : List A) → ((z : A) → Occurs z g.list → (z ≡ a) ⊎ Occurs z zs) → (x : A) → B x ⊎ C x → Occurs x (h.list ++ zs)
      either zs f x (inl d) = occurs_left x h.list zs (h.all x d)
      either zs f x (inr d) = ⊎_elim (λ e. occurs_left x h.list zs (h.all x (subst B (sym e) b))) (occurs_right x h.list zs) (f x (g.all x d))

  -- of n kinds, no two of which have anything in common, with f i of kind i: the sum, which g gives
  pub number_sum : (B : ℕ → A → Type 0) (f g : ℕ → ℕ) → g 0 ≡ 0 → ((i : ℕ) → g (suc i) ≡ g i + f i) → ((i j : ℕ) (a : A) → B i a → B j a → i ≡ j)
      → (n : ℕ) → ((i : ℕ) → i < n → Number (B i) (f i)) → Number (λ (a : A). (i : ℕ) × (i < n) × B i a) (g n)
  number_sum B f g z s one zero h = subst (λ m. Number (λ (a : A). (i : ℕ) × (i < 0) × B i a) m) (sym z) (number_none _ (λ a (i, r, b). let e : ⊥ = omega arith in e))
  number_sum B f g z s one (suc n) h =
      subst (λ m. Number (λ (a : A). (i : ℕ) × (i < suc n) × B i a) m) (sym (s n))
      (number_iff (λ a. (split a, join a)) (number_add (number_sum B f g z s one n (λ i r. h i (omega arith))) (h n (omega arith)) apart))
    where
      apart : (a : A) → (i : ℕ) × (i < n) × B i a → ¬ B n a
      apart a (i, r, b) c = let e = one i n a b c in omega arith

      split : (a : A) → ((i : ℕ) × (i < n) × B i a) ⊎ B n a → (i : ℕ) × (i < suc n) × B i a
      split a (inl (i, r, b)) = (i, omega arith, b)
      split a (inr b) = (n, omega arith, b)

      join : (a : A) → (i : ℕ) × (i < suc n) × B i a → ((i : ℕ) × (i < n) × B i a) ⊎ B n a
      join a (i, r, b) = go (ℕ_discrete i n)
        where
          go : Dec (i ≡ n) → ((i : ℕ) × (i < n) × B i a) ⊎ B n a
          go (yes e) = inr (subst (λ j. B j a) e b)
          go (no g) = inl (i, omega arith, b)

-- ── At least so many ──
module _ {A : Type 0} where
  -- the first n of a list without repetition
  first_of : (B : A → Type 0) (n : ℕ) (xs : List A) → n ≤ length xs → Distinct xs → All B xs → (h : AtLeast n B) × ((a : A) → Occurs a h.0 → Occurs a xs)
  first_of B zero xs l d h = (([], refl, tt, tt), λ a o. absurd o)
  first_of B (suc n) [] l d h = absurd (omega arith)
  first_of B (suc n) (x ∷ xs) l d h =
      let ((ys, e, c, k), sub) = first_of B n xs (omega arith) d.1 h.1 in
      ((x ∷ ys, ap suc e, (λ o. d.0 (sub x o), c), (h.0, k)), λ a o. ⊎_map (λ p. p) (sub a) o)

  -- of exactly m things there are at least n if n is at most m, and only then
  pub at_least_number : {B : A → Type 0} {n m : ℕ} → Number B m → AtLeast n B ↔ (n ≤ m)
  at_least_number {B} {n} {m} g = (to, λ l. (first_of B n g.list (let e = g.long in omega arith) g.distinct ((all_occurs B g.list).1 g.only)).0)
    where
      to : AtLeast n B → n ≤ m
      to (xs, e, d, h) =
          let l = pigeon (λ (a : A). a) xs g.list d (λ a o. g.all a ((all_occurs B xs).0 h a o)) (λ a b o p i. i) in
          let j = g.long in
          omega arith

  pub at_least_imp : {B D : A → Type 0} {n : ℕ} → ((a : A) → B a → D a) → AtLeast n B → AtLeast n D
  at_least_imp {B} {D} f (xs, e, d, h) = (xs, e, d, all_imp B D f xs h)

  pub at_least_iff : {B D : A → Type 0} {n : ℕ} → ((a : A) → B a ↔ D a) → AtLeast n B ↔ AtLeast n D
  at_least_iff f = (at_least_imp (λ a. (f a).0), at_least_imp (λ a. (f a).1))

  -- at least one is some
  pub at_least_one : {B : A → Type 0} → AtLeast 1 B ↔ ((a : A) × B a)
  at_least_one {B} = (to, λ (a, b). (a ∷ [], refl, (λ o. o, tt), (b, tt)))
    where
      to : AtLeast 1 B → (a : A) × B a
      to ([], e, d, h) = absurd (omega arith)
      to (x ∷ xs, e, d, h) = (x, h.0)

-- ── Lists of candidates ──
unfoldable pub range : ℕ → ℕ → List ℕ
range lo zero = []
range lo (suc n) = lo ∷ range (suc lo) n

pub length_range : (lo n : ℕ) → length (range lo n) ≡ n
unfolding range
length_range lo zero = refl
length_range lo (suc n) = ap suc (length_range (suc lo) n)

pub occurs_range : (i lo n : ℕ) → lo ≤ i → i < lo + n → Occurs i (range lo n)
unfolding range
occurs_range i lo zero h g = absurd (omega arith)
occurs_range i lo (suc n) h g = go (ℕ_discrete i lo) (λ (q : suc lo ≤ i). occurs_range i (suc lo) n q (omega arith))
  where
    go : Dec (i ≡ lo) → (suc lo ≤ i → Occurs i (range (suc lo) n)) → (i ≡ lo) ⊎ Occurs i (range (suc lo) n)
    go (yes e) ih = inl e
    go (no f) ih = inr (ih (omega arith))

pub range_occurs : (i lo n : ℕ) → Occurs i (range lo n) → (lo ≤ i) × (i < lo + n)
unfolding range
range_occurs i lo zero h = absurd h
range_occurs i lo (suc n) (inl e) = (omega arith, omega arith)
range_occurs i lo (suc n) (inr h) = let (a, b) = range_occurs i (suc lo) n h in (omega arith, omega arith)

pub range_distinct : (lo n : ℕ) → Distinct (range lo n)
unfolding range
range_distinct lo zero = tt
range_distinct lo (suc n) = ((λ h. let (a, b) = range_occurs lo (suc lo) n h in omega arith), range_distinct (suc lo) n)

-- of the numbers below m there are m at most
pub at_least_below : {B : ℕ → Type 0} {n m : ℕ} → ((a : ℕ) → B a → a < m) → AtLeast n B → n ≤ m
at_least_below {B} {n} {m} f (xs, e, d, h) =
    let l = pigeon (λ (a : ℕ). a) xs (range 0 m) d (λ a o. let r = f a ((all_occurs B xs).0 h a o) in occurs_range a 0 m (omega arith) (omega arith)) (λ a b o p i. i) in
    let k = length_range 0 m in
    omega arith

module _ {A B : Type 0} where
  unfoldable pub prod : List A → List B → List (A × B)
  prod [] ys = []
  prod (x ∷ xs) ys = map (λ y. (x, y)) ys ++ prod xs ys

  pub length_prod : (xs : List A) (ys : List B) → length (prod xs ys) ≡ length xs * length ys
  unfolding prod
  length_prod [] ys = omega arith
  length_prod (x ∷ xs) ys =
      let i = length-append (map (λ (y : B). (x, y)) ys) (prod xs ys) in
      let j = length-map {B = A × B} ys (λ (y : B). (x, y)) in
      let k = length_prod xs ys in
      omega arith

  pub occurs_prod : (a : A) (b : B) (xs : List A) (ys : List B) → Occurs a xs → Occurs b ys → Occurs {A = A × B} (a, b) (prod xs ys)
  unfolding prod
  occurs_prod a b [] ys h g = absurd h
  occurs_prod a b (x ∷ xs) ys (inl e) g =
      occurs_left {A = A × B} (a, b) (map (λ y. (x, y)) ys) (prod xs ys)
      (subst (λ z. Occurs {A = A × B} (a, b) (map (λ y. (z, y)) ys)) e (occurs_map (λ (y : B). (a, y)) b ys g))
  occurs_prod a b (x ∷ xs) ys (inr h) g = occurs_right {A = A × B} (a, b) (map (λ y. (x, y)) ys) (prod xs ys) (occurs_prod a b xs ys h g)
