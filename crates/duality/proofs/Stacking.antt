-- The frames of a stack, the last first.
use Rattle.std.proofs.Common.{◌≡◌, ℕ, zero, suc, ◌+◌, ◌-◌, ◌<◌, ◌≤◌, List, ◌∷◌, length, get_or, set, refl, ap, add-one, arith}
use Rattle.std.proofs.lemmas.List.{get_or-set_same, get_or-set_other}
use Rattle.duality.specs.declared.splits.Frame.{Frame}
use Rattle.duality.specs.Halves.{stacked, turned, no_frame}

pub length_stacked : (d : ℕ) (fs : List Frame) → length (stacked d fs) ≡ d
length_stacked zero fs = refl
length_stacked (suc d) fs = ap suc (length_stacked d fs)

stacked_set : (d : ℕ) (fs : List Frame) (i : ℕ) (f : Frame) → d ≤ i → stacked d (set fs i f) ≡ stacked d fs
stacked_set zero fs i f h = refl
stacked_set (suc d) fs i f h =
    let a : get_or (set fs i f) d no_frame ≡ get_or fs d no_frame = get_or-set_other fs i d f no_frame (omega arith) in
    let b : stacked d (set fs i f) ≡ stacked d fs = stacked_set d fs i f (omega arith) in
    cc

stacked_more : (d : ℕ) (fs : List Frame) → stacked (d + 1) fs ≡ get_or fs d no_frame ∷ stacked d fs
stacked_more d fs = rw add-one

stacked_last : (d : ℕ) (fs : List Frame) → 0 < d → stacked d fs ≡ get_or fs (d - 1) no_frame ∷ stacked (d - 1) fs
stacked_last zero fs h = absurd (omega arith)
stacked_last (suc d) fs h = let e : suc d - 1 ≡ d = omega arith in rw e

pub stacked_push : (d : ℕ) (fs : List Frame) (f : Frame) → d < length fs → stacked (d + 1) (set fs d f) ≡ f ∷ stacked d fs
stacked_push d fs f h =
    let a = stacked_more d (set fs d f) in
    let b = get_or-set_same fs d f no_frame h in
    let e = stacked_set d fs d f (omega arith) in
    cc

pub stacked_turn : (d : ℕ) (fs : List Frame) (g : Frame) (f : Frame) (rest : List Frame) → 0 < d → d ≤ length fs → stacked d fs ≡ f ∷ rest → g ≡ turned (get_or fs (d - 1) no_frame) → stacked d (set fs (d - 1) g) ≡ turned f ∷ rest
stacked_turn d fs g f rest h l e t =
    let a = stacked_last d fs h in
    let b = stacked_last d (set fs (d - 1) g) h in
    let x = get_or-set_same fs (d - 1) g no_frame (omega arith) in
    let y = stacked_set (d - 1) fs (d - 1) g (omega arith) in
    let i : f ≡ get_or fs (d - 1) no_frame = cc in
    let j : turned f ≡ turned (get_or fs (d - 1) no_frame) = ap turned i in
    cc
