mod Eights
