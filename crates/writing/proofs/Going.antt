-- A text that is put part by part: what is put and what is left.
use Rattle.std.proofs.Common.{◌≡◌, ◌+◌, ◌<◌, ◌^◌, [], ◌++◌, length, sym, ap, ◌∙◌, arith}
use Rattle.std.proofs.lemmas.List.{append-nil, append_assoc, length-append}
use Rattle.sheets.specs.Bytes.{Bytes}
use Rattle.writing.specs.Pages.{Wrote}
use Rattle.writing.specs.declared.page.Page.{Page}
use Rattle.writing.proofs.Writing.{wrote_none, wrote_then, wrote_same}

-- of `all`, everything but `rest` is put
pub record Going (a b : Page) (all rest : Bytes) : Type 0 where
  pub done : Bytes
  pub wrote : Wrote a b done
  pub parts : all ≡ done ++ rest

pub going_none : {a : Page} {all rest : Bytes} → all ≡ rest → Going a a all rest
going_none e = record { done = []; wrote = wrote_none; parts = e }

pub going_more : {a b c : Page} {all rest xs ys : Bytes} → Going a b all rest → rest ≡ xs ++ ys → Wrote b c xs → Going a c all ys
going_more {xs = xs} {ys = ys} g e w = record {
  done = g.done ++ xs;
  wrote = wrote_then g.wrote w;
  parts = g.parts ∙ ap (λ (z : Bytes). g.done ++ z) e ∙ sym (append_assoc g.done xs ys);
}

pub going_all : {a b : Page} {all rest : Bytes} → Going a b all rest → rest ≡ [] → Wrote a b all
going_all g e = wrote_same (sym (g.parts ∙ ap (λ (z : Bytes). g.done ++ z) e ∙ append-nil g.done)) g.wrote

-- what is left has its numbers, too
going_fits : {a b : Page} {all rest : Bytes} → Going a b all rest → a.len + length all < 2 ^ 64 → b.len + length rest < 2 ^ 64
going_fits {rest = rest} g h =
    let long = ap length g.parts ∙ length-append g.done rest in
    omega (arith, g.wrote.len)

-- the next part has its numbers
pub going_room : {a b : Page} {all rest : Bytes} (xs ys : Bytes) → Going a b all rest → a.len + length all < 2 ^ 64 → rest ≡ xs ++ ys → b.len + length xs < 2 ^ 64
going_room xs ys g h e =
    let left = going_fits g h in
    let long = ap length e ∙ length-append xs ys in
    omega arith
