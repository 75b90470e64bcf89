mod ComparedLemmas
mod LikenessLemmas
mod LineLemmas
mod PutLemmas
mod SizeLemmas
mod TakenLemmas
mod WindowLemmas
