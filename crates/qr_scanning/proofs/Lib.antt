mod lemmas
mod Named
